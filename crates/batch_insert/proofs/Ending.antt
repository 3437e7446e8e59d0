-- The forced children and the classes are set.
use Rattle.std.proofs.Common.{◌≡◌, ◌≢◌, inl, inr, ℕ, ◌<◌, Option, Some, None, List, [], ◌∷◌, ◌++◌, ℤ, length, nat_cmp, nat_eq, slice_get}
use Rattle.std.proofs.Common.{slice_index_or, refl, sym, ap, subst, true, ◌∙◌, arith}
use Rattle.std.proofs.lemmas.Bool.Decides.{eqb_tells}
use Rattle.std.specs.Ordering.{eq_by_cmp}
use Rattle.std.specs.Option.{option_map}
use Rattle.std.specs.FinMap as map
use Rattle.cube_defs.specs.Cell.{Cell, leq, mask, with_value}
use Rattle.cube_defs.specs.Rows as defs
use Rattle.cube_defs.specs.Tree.{Edge, Tree, cell_at}
use Rattle.cube_laws.specs.Total.{combine}
use Rattle.cube_laws.proofs.CallerLemmas.{agg-insert_alone, agg-insert_more, aggs_add, code_equality, leq_is}
use Rattle.tree_laws.proofs.CallerLemmas.{any_after, some_same}
use Rattle.aggregates.specs.Rows.{agg_of_row}
use Rattle.aggregates.specs.Views.{agg_in}
use Rattle.aggregates.specs.declared.agg.Agg.{Agg}
use Rattle.aggregates.proofs.CallerLemmas.{agg_of-one}
use Rattle.qc_arena.specs.Map.{Arena, Known, with_class, with_forced}
use Rattle.batch_insert.specs.declared.plan.ForcedChild.{ForcedChild}
use Rattle.batch_insert.specs.declared.plan.NodeKind.{NodeKind}
use Rattle.batch_insert.specs.Cases.{Case, IsPrefix, new_closure, old_closure}
use Rattle.batch_insert.specs.Planned.{sum_with}
use Rattle.batch_insert.specs.Stages.{EdgesStay, HasEndOf, IsEnded, IsSound, IsStage}
use Rattle.batch_insert.specs.Whole.{IsEndFor, IsLast}
use Rattle.batch_insert.proofs.Prefixes.{prefix_deep, prefix_end, prefix_leq, prefix_long}
use Rattle.batch_insert.proofs.Labelled.{covered}
use Rattle.batch_insert.proofs.Naming.{below_with, long_with, same_mask}
use Rattle.batch_insert.proofs.Staging.{edges, prefix_there, held, names, staged}

module _ {t : Cell ℕ} {a : Arena} (c : Case t a) where
  -- what the rows before come to, and the row
  pub sum_is : (p : Cell ℕ) (i : ℕ) (amounts : List ℤ) (before : Option Agg) → IsPrefix c p i → c.row.amounts ≡ amounts
      → c.measures ≡ length amounts
      → option_map agg_in before ≡ option_map (λ _. defs.agg (eq_by_cmp nat_cmp) c.measures (c.xs ++ c.ys) p)
      (old_closure c p)
      → sum_with (option_map agg_in before) (agg_of_row amounts) ≡ defs.agg (eq_by_cmp nat_cmp) c.measures
      (c.xs ++ c.row ∷ c.ys) p
  sum_is p i amounts before front same many old = ap (λ o. sum_with o (agg_of_row amounts)) old ∙ go _ refl
    where
      one : defs.agg_of c.measures (c.row ∷ []) ≡ agg_of_row amounts
      one = ap (λ m. defs.agg_of m (c.row ∷ [])) (many ∙ ap length (sym same)) ∙ agg_of-one c.row ∙ ap agg_of_row same

      go : (o : Option (Cell ℕ)) → old_closure c p ≡ o
          → sum_with (option_map (λ _. defs.agg (eq_by_cmp nat_cmp) c.measures (c.xs ++ c.ys) p) o) (agg_of_row amounts)
          ≡ defs.agg (eq_by_cmp nat_cmp) c.measures (c.xs ++ c.row ∷ c.ys) p
      go None e = sym (agg-insert_alone code_equality c.xs c.row c.ys c.measures p (covered c p i front) e
          ∙ one)
      go (Some u) e =
          let old : defs.Agg = defs.agg (eq_by_cmp nat_cmp) c.measures (c.xs ++ c.ys) p in
          some_same (aggs_add.comm (Some old) (Some (agg_of_row amounts)))
          ∙ ap (λ y. combine y old) (sym one)
          ∙ sym (agg-insert_more code_equality c.xs c.row c.ys c.measures p u (covered c p i front) e)

  module _ (f : ℕ → Option ℕ) (b : Tree ℕ) (stage : IsStage c b f) (x : NodeKind) (is : IsEndFor c x) (k : ℕ)
      (number : f x.mask ≡ Some k) where
    -- what another end has done stays
    stays : (d : Tree ℕ) → cell_at d ≡ cell_at b → ((q : ℕ) → q ≢ k → map.get d q ≡ map.get b q) → IsEnded c d f x
        → (y : NodeKind) → IsEnded c b f y → IsEnded c d f y
    stays d same others done y h = elim (eqb_tells h.0 k) [
      | inl s ↦ (
        k,
        done.1,
        h.2 ∙ ap (λ q. Some q) s.1,
        rw (← (some_same (sym done.2 ∙ number))) done.3,
        done.4,
      )
      | inr s ↦ (h.0, h.1, h.2, others h.0 s.1 ∙ h.3, subst (λ g. HasEndOf c g h.1.cell h.1) (sym same) h.4)
    ]

    forced_to : (g : ForcedChild) → x.forced ≡ Some g → IsLast c is.node (Some g) x.before
    forced_to g e = rw e at is.last

    pub ended_forced : (d : Tree ℕ) (g : ForcedChild) (l v : ℕ) → x.forced ≡ Some g → f g.child ≡ Some l
        → slice_index_or t g.dim None ≡ Some v
        → map.get d k ≡ option_map (with_forced (Some (record { dim = g.dim; value = v; target = l }))) (map.get b k)
        → ((q : ℕ) → q ≢ k → map.get d q ≡ map.get b q)
        → IsStage c d f × EdgesStay b d × IsEnded c d f x × ((y : NodeKind) → IsEnded c b f y → IsEnded c d f y)
    ended_forced d g l v e child value here others =
        let edge : Edge ℕ ℕ = record { dim = g.dim; value = v; target = l } in
        let last = forced_to g e in
        let n = held c f b stage is.node g.dim x.mask k last.0 is.dims number in
        let after : map.get d k ≡ Some (with_forced (Some edge) n.0)
        = here ∙ ap (option_map (with_forced (Some edge))) n.1 in
        let front = prefix_there c f b stage is.node g.dim n.0 last.0 n.2 in
        let same = names b d k n.0 _ n.1 after refl others in
        let entry = (last.2 v value).0 in
        let done : IsEnded c d f x = (
          k,
          with_forced (Some edge) n.0,
          number,
          after,
          inr (
            g.dim,
            v,
            l,
            rw (← n.2) at last.0,
            last.1,
            rw (← n.2) at entry,
            refl,
            ap (λ h. h l) same ∙ named g l v last.0 last.1 value (last.2 v value).1 child
                ∙ ap (λ p. Some (with_value p g.dim v)) (sym n.2),
            unmarked n.0 n.2 (stage.sound k n.0 n.1 front) g v last.0 last.1 entry,
          ),
        ) in (
          staged b d k n.0 _ n.1 after refl others c f front (λ i w h. h) stage
              (λ s. record { parent = s.parent; rises = s.rises; place = s.place; leads = s.leads; class = s.class }),
          edges b d k n.0 _ n.1 after refl others refl,
          done,
          stays d same others done,
        )
      where
        -- the child is the node with the mask
        named : (g : ForcedChild) (l v : ℕ) → IsPrefix c is.node g.dim → g.dim < length t
            → slice_index_or t g.dim None ≡ Some v → mask (with_value is.node g.dim v) ≡ g.child → f g.child ≡ Some l
            → cell_at b l ≡ Some (with_value is.node g.dim v)
        named g l v front within value dims child =
            let q = stage.nodes g.child l child in
            let long : length is.node ≡ length t = prefix_long c is.node g.dim front in
            let low : leq nat_eq is.node t ≡ true = sym (leq_is is.node t)
            ∙ prefix_leq c is.node g.dim front in
            q.1 ∙ ap (λ p. Some p) (same_mask q.0 _ t (sym (leq_is q.0 t)
            ∙ prefix_leq c q.0 _ q.3) (below_with t is.node g.dim v low (prefix_deep c is.node g.dim front)
            (omega (arith, within, long)) value)
            (prefix_long c q.0 _ q.3 ∙ sym (long_with is.node g.dim v ∙ long)) (q.2 ∙ sym dims))

        -- a node with a forced child is no class
        unmarked : (n : Known) → n.cell ≡ is.node → IsSound c (cell_at b) n → (g : ForcedChild) (v : ℕ)
            → IsPrefix c is.node g.dim → g.dim < length t → slice_get (new_closure c is.node) g.dim ≡ Some (Some v)
            → n.class ≡ None
        unmarked n cell sound g v front within entry = elim sound.class [
          | inl h ↦ h
          | inr h ↦ absurd (both (sym
              (any_after is.node g.dim (prefix_deep c is.node g.dim front)
              (omega (arith, within, prefix_long c is.node g.dim front)))
              ∙ ap (λ p. slice_get p g.dim) (sym (ap (new_closure c) (sym cell) ∙ h ∙ cell)) ∙ entry))
        ]
          where
            both : Some None ≡ Some (Some v) → ⊥
            both z = cc

    pub ended_class : (d : Tree ℕ) (s : defs.Agg) → x.forced ≡ None
        → (IsPrefix c is.node (length t) → s ≡ defs.agg (eq_by_cmp nat_cmp) c.measures (c.xs ++ c.row ∷ c.ys) is.node)
        → map.get d k ≡ option_map (with_class (Some s)) (option_map (with_forced None) (map.get b k))
        → ((q : ℕ) → q ≢ k → map.get d q ≡ map.get b q)
        → IsStage c d f × EdgesStay b d × IsEnded c d f x × ((y : NodeKind) → IsEnded c b f y → IsEnded c d f y)
    ended_class d s none sum here others =
        let whole : IsPrefix c is.node (length t) = (rw none at is.last).0 in
        let n = held c f b stage is.node _ x.mask k whole is.dims number in
        let m : Known = with_class (Some s) (with_forced None n.0) in
        let after : map.get d k ≡ Some m
        = here ∙ ap (λ o. option_map (with_class (Some s)) (option_map (with_forced None) o)) n.1 in
        let front = prefix_there c f b stage is.node _ n.0 whole n.2 in
        let same = names b d k n.0 m n.1 after refl others in
        let own : new_closure c n.0.cell ≡ n.0.cell
        = rw n.2 (prefix_end c is.node _ whole (omega arith)) in
        let done : IsEnded c d f x
        = (
          k,
          m,
          number,
          after,
          inl (
            rw n.2 whole,
            refl,
            ap (λ z. Some z) (sum whole ∙ ap (defs.agg _ c.measures (c.xs ++ c.row ∷ c.ys)) (sym n.2)),
          ),
        ) in (
          staged b d k n.0 m n.1 after refl others c f front (λ i w h. h) stage
              (λ z. record { parent = z.parent; rises = z.rises; place = z.place; leads = z.leads; class = inr own }),
          edges b d k n.0 m n.1 after refl others refl,
          done,
          stays d same others done,
        )
