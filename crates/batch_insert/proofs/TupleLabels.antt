-- The labels with the row's value are set.
use Rattle.std.proofs.Common.{◌≡◌, ◌≢◌, inl, inr, ℕ, Option, Some, None, nat_cmp, slice_index_or, refl, sym, ap, ◌∙◌}
use Rattle.std.proofs.lemmas.Bool.Decides.{eqb_tells}
use Rattle.std.specs.Ordering.{eq_by_cmp}
use Rattle.std.specs.Option.{option_map}
use Rattle.std.specs.FinMap as map
use Rattle.cube_defs.specs.Cell.{Cell, mask}
use Rattle.cube_defs.specs.Tree.{Edge, Tree}
use Rattle.tree_laws.proofs.CallerLemmas.{some_same}
use Rattle.tree_laws.specs.Labels.{target_after_row}
use Rattle.qc_arena.specs.Edges.{put_edge, with_edge}
use Rattle.qc_arena.specs.Map.{Arena, Known}
use Rattle.qc_arena.specs.RecordReaders.{record_at, record_or}
use Rattle.batch_insert.specs.declared.plan.TupleLabel.{TupleLabel}
use Rattle.batch_insert.specs.Cases.{Case, old_lead}
use Rattle.batch_insert.specs.Stages.{EdgesStay, HasLabel, IsSet, IsStage, LabelsStay}
use Rattle.batch_insert.specs.Whole.{IsTupleLabelOf}
use Rattle.batch_insert.proofs.Coming.{prefix_told}
use Rattle.qc_arena.proofs.CallerLemmas.{put_here, put_stays}
use Rattle.batch_insert.proofs.Prefixes.{deep_prefix}
use Rattle.batch_insert.proofs.Staging.{prefix_there, held, label_put, labels, put_sound, staged}
use Rattle.batch_insert.proofs.Started.{record_known}

-- what is set stays where no edge changes
pub set_stays : (t : Cell ℕ) (b d : Tree ℕ) (f : ℕ → Option ℕ) (x : TupleLabel) → EdgesStay b d → IsSet t b f x
    → IsSet t d f x
set_stays t b d f x same h
    = (
      h.0,
      h.1,
      h.2,
      h.3,
      h.4,
      h.5,
      rw (same h.0) h.6,
    )

module _ {t : Cell ℕ} {a : Arena} (c : Case t a) where
  -- two of one node and one dimension have one target
  same_target : (x y : TupleLabel) (v : ℕ) → IsTupleLabelOf c x → IsTupleLabelOf c y → x.mask ≡ y.mask → x.dim ≡ y.dim
      → slice_index_or t x.dim None ≡ Some v → x.target ≡ y.target
  same_target x y v is also dims dim value =
      let node : is.node ≡ also.node
      = prefix_told c is.node also.node (deep_prefix c is.node x.dim is.front)
      (deep_prefix c also.node y.dim also.front) (is.dims ∙ dims ∙ sym also.dims) in
      sym (is.target v value)
      ∙ ap (λ p. mask (target_after_row (eq_by_cmp nat_cmp) (old_lead c p x.dim v) t x.dim)) node
      ∙ ap (λ i. mask (target_after_row (eq_by_cmp nat_cmp) (old_lead c also.node i v) t i)) dim
      ∙ also.target v (ap (λ i. slice_index_or t i None) (sym dim) ∙ value)

  module _ (f : ℕ → Option ℕ) (b d : Tree ℕ) (stage : IsStage c b f) (x : TupleLabel) (is : IsTupleLabelOf c x)
      (k l v : ℕ) (number : f x.mask ≡ Some k) (target : f x.target ≡ Some l)
      (value : slice_index_or t x.dim None ≡ Some v)
      (here : map.get d k ≡ option_map (with_edge (record { dim = x.dim; value = v; target = l })) (map.get b k))
      (others : (q : ℕ) → q ≢ k → map.get d q ≡ map.get b q) where
    abbrev edge : Edge ℕ ℕ
    edge = record { dim = x.dim; value = v; target = l }

    abbrev other : TupleLabel → ℕ → ℕ → Edge ℕ ℕ
    other y l v = record { dim = y.dim; value = v; target = l }

    n : (n : Known) × (map.get b k ≡ Some n) × (n.cell ≡ is.node)
    n = held c f b stage is.node x.dim x.mask k is.front is.dims number

    after : map.get d k ≡ Some (with_edge edge n.0)
    after = here ∙ ap (option_map (with_edge edge)) n.1

    edges_after : (record_at d k).edges ≡ put_edge edge (record_at b k).edges
    edges_after = ap (λ (r : Known). r.edges) (record_known d k _ after)
        ∙ ap (λ (r : Known). put_edge edge r.edges) (sym (record_known b k n.0 n.1))

    stays : (y : TupleLabel) → IsTupleLabelOf c y → IsSet t b f y → IsSet t d f y
    stays y also h = (
      h.0,
      h.1,
      h.2,
      h.3,
      h.4,
      h.5,
      elim (eqb_tells h.0 k) [
        | inl s ↦ rw (ap (λ q. (record_at d q).edges) s.1 ∙ edges_after) (elim (put_stays edge (record_at b k).edges (other y h.1 h.2)
            (rw (← s.1) h.6)) [
              | inl m ↦ m
              | inr e ↦ rw (← (one e.dim e.value (masks (h.3 ∙ ap (λ q. Some q) s.1)))) (put_here edge (record_at b k).edges)
            ])
        | inr s ↦ rw (ap record_or (others h.0 s.1)) h.6
      ],
    )
      where
        -- a number has one mask
        masks : f y.mask ≡ Some k → x.mask ≡ y.mask
        masks g = let p = stage.nodes x.mask k number in let q = stage.nodes y.mask k g in
            sym p.2 ∙ ap mask (some_same (sym p.1 ∙ q.1)) ∙ q.2

        one : y.dim ≡ x.dim → h.2 ≡ v → x.mask ≡ y.mask → edge ≡ other y h.1 h.2
        one dim val dims =
            let to : l ≡ h.1 = some_same (sym target ∙ ap f (same_target x y v is also dims (sym dim) value) ∙ h.4) in
            λ i. record { dim = sym dim i; value = sym val i; target = to i }

    pub owned : IsStage c d f × LabelsStay b d × IsSet t d f x
        × ((y : TupleLabel) → IsTupleLabelOf c y → IsSet t b f y → IsSet t d f y)
    owned = (
      staged b d k n.0 _ n.1 after refl others c f (prefix_there c f b stage is.node x.dim n.0 is.front n.2) more stage
          (put_sound c _ edge n.0 (
            is.within,
            rw n.2 is.front,
            inr value,
          )),
      labels b d k n.0 _ n.1 after refl others more,
      (
        k,
        l,
        v,
        number,
        target,
        value,
        rw edges_after (put_here edge (record_at b k).edges),
      ),
      stays,
    )
      where
        more : (i w : ℕ) → HasLabel i w n.0.edges → HasLabel i w (put_edge edge n.0.edges)
        more i w h = label_put edge n.0.edges i w h
