-- One part of a plan.
use Rattle.batch_insert.specs.Whole.{IsCopyOf, IsLast}
use Rattle.std.proofs.Common.{◌+◌, ◌*◌, ◌≤◌, arith, ◌≡◌, ◌≢◌, inl, inr, ℕ, Option, Some, None, List, [], ◌∷◌, ℤ, length, nat_eq, replicate}
use Rattle.std.proofs.Common.{slice_index_or, if◌then◌else◌, refl, sym, ap, subst, ◌∙◌}
use Rattle.std.proofs.lemmas.Bool.{cond-true}
use Rattle.std.proofs.lemmas.List.{length-replicate}
use Rattle.std.specs.Ordering.{nat_cmp}
use Rattle.std.specs.Option.{option_map}
use Rattle.std.specs.FinMap as map
use Rattle.cube_defs.specs.Cell.{Cell, depth}
use Rattle.cube_defs.specs.Rows as defs
use Rattle.cube_defs.specs.Tree.{Tree, cell_at, parent_cell_of}
use Rattle.cube_laws.specs.Lists.{Among}
use Rattle.aggregates.specs.Rows.{agg_of_row}
use Rattle.aggregates.specs.Views.{agg_in}
use Rattle.qc_arena.specs.Map.{Arena, new_record, with_class, with_forced}
use Rattle.qc_arena.specs.Edges.{with_edge}
use Rattle.qc_arena.specs.RecordReaders.{record_at}
use Rattle.batch_insert.specs.declared.plan.LabelCopy.{LabelCopy}
use Rattle.batch_insert.specs.declared.plan.TupleLabel.{TupleLabel}
use Rattle.batch_insert.specs.declared.plan.ForcedChild.{ForcedChild}
use Rattle.batch_insert.specs.declared.plan.NodeKind.{NodeKind}
use Rattle.batch_insert.specs.Begun.{IsBegun}
use Rattle.batch_insert.specs.Cases.{Case, IsPrefix}
use Rattle.batch_insert.specs.Invariants.{with_edges}
use Rattle.batch_insert.specs.Planned.{IsOld, sum_with}
use Rattle.batch_insert.specs.Stages.{HaveCopied, HaveEnded, HaveSet, IsCopied, IsEnded, IsSet, IsStage}
use Rattle.batch_insert.proofs.Coming.{begun_new, begun_old}
use Rattle.batch_insert.proofs.Ending.{ended_class, ended_forced, sum_is}
use Rattle.batch_insert.proofs.Naming.{any_mask, same_mask}
use Rattle.batch_insert.proofs.TupleLabels.{owned}
use Rattle.batch_insert.specs.Costs.{copy_cost}
use Rattle.batch_insert.proofs.Staging.{copied, copied_self, source_edges}
use Rattle.batch_insert.proofs.Turns.{root_prefix}
use Rattle.tree_laws.proofs.CallerLemmas.{any_below, depth-any}

one_among : {X : Type 0} (P : X → Type 0) (x : X) → P x → (y : X) → Among y (x ∷ []) → P y
one_among P x h y (inl e) = subst P (sym e) h
one_among P x h y (inr e) = absurd e

module _ (t : Cell ℕ) (f : ℕ → Option ℕ) (b : Tree ℕ) where
  pub one_self : (x : LabelCopy) (k : ℕ) → f x.mask ≡ Some k → x.from.0 ≡ k → HaveCopied t f (x ∷ []) b b
  one_self x k number e a c stage are =
      let r = copied_self c f b stage x (are x (inl refl)) k number e in
      (r.0, r.1, one_among (IsCopied c b f) x r.2)

  pub copy_steps : (x : LabelCopy) (k : ℕ) (old new : ℕ) → f x.mask ≡ Some k → x.from.0 ≢ k
      → new ≤ old + (1 + 2 * length (record_at b x.from.0).edges)
      → (a : Arena) (c : Case t a) → IsStage c b f → IsCopyOf c x → new ≤ old + copy_cost a.now x
  copy_steps x k old new number off le a c stage is = let same
      = ap (λ es. length es) (source_edges c f b stage x is k number off) in omega (arith, le, same)

  module _ (d : Tree ℕ) where
    pub one_copied : (x : LabelCopy) (k : ℕ) → f x.mask ≡ Some k → x.from.0 ≢ k
        → map.get d k ≡ option_map (with_edges (record_at b x.from.0).edges) (map.get b k)
        → ((q : ℕ) → q ≢ k → map.get d q ≡ map.get b q) → HaveCopied t f (x ∷ []) b d
    one_copied x k number off here others a c stage are =
        let r = copied c f b stage x (are x (inl refl)) k number d off here others in
        (r.0, r.1, one_among (IsCopied c d f) x r.2)

    pub one_set : (x : TupleLabel) (k l v : ℕ) → f x.mask ≡ Some k → f x.target ≡ Some l
        → slice_index_or t x.dim None ≡ Some v
        → map.get d k ≡ option_map (with_edge (record { dim = x.dim; value = v; target = l })) (map.get b k)
        → ((q : ℕ) → q ≢ k → map.get d q ≡ map.get b q) → HaveSet t f (x ∷ []) b d
    one_set x k l v number target value here others a c stage are =
        let r = owned c f b d stage x (are x (inl refl)) k l v number target value here others in
        (r.0, r.1, one_among (IsSet t d f) x r.2, r.3)

    pub one_forced : (amounts : List ℤ) (x : NodeKind) (g : ForcedChild) (k l v : ℕ) → x.forced ≡ Some g
        → f x.mask ≡ Some k → f g.child ≡ Some l → slice_index_or t g.dim None ≡ Some v
        → map.get d k ≡ option_map (with_forced (Some (record { dim = g.dim; value = v; target = l }))) (map.get b k)
        → ((q : ℕ) → q ≢ k → map.get d q ≡ map.get b q) → HaveEnded t amounts f (x ∷ []) b d
    one_forced amounts x g k l v forced number child value here others a c same many stage are =
        let r = ended_forced c f b stage x (are x (inl refl)) k number d g l v forced child value here others in
        (r.0, r.1, one_among (IsEnded c d f) x r.2, r.3)

    pub one_class : (amounts : List ℤ) (x : NodeKind) (k : ℕ) (s : defs.Agg) → x.forced ≡ None → f x.mask ≡ Some k
        → s ≡ sum_with (option_map agg_in x.before) (agg_of_row amounts)
        → map.get d k ≡ option_map (with_class (Some s)) (option_map (with_forced None) (map.get b k))
        → ((q : ℕ) → q ≢ k → map.get d q ≡ map.get b q) → HaveEnded t amounts f (x ∷ []) b d
    one_class amounts x k s none number sum here others a c same many stage are =
        let is = are x (inl refl) in
        let r = ended_class c f b stage x is k number d s none (λ whole. sum
        ∙ sum_is c is.node _ amounts x.before whole same many
        (subst (λ o. IsLast c is.node o x.before) none is.last).1) here others in
        (r.0, r.1, one_among (IsEnded c d f) x r.2, r.3)

-- the root
module _ {t : Cell ℕ} {a : Arena} (c : Case t a) (f : ℕ → Option ℕ) (none : (m : ℕ)
    → f m ≡ None) where
  no_number : {X : Type 0} (m k : ℕ) → f m ≡ Some k → X
  no_number m k h = absurd (both (sym (none m) ∙ h))
    where
      both : None ≡ Some k → ⊥
      both z = cc

  pub not_begun : IsBegun c a.now f
  not_begun = record {
    cells = λ k p h. h;
    nodes = λ m k h. no_number m k h;
    left = λ k n h. inl h;
    old = λ m k l p h e i d. no_number m k h;
    records = λ m k h. no_number m k h;
  }

  pub flat_prefix : IsPrefix c (replicate a.width None) (depth (replicate {A = Option ℕ} a.width None))
  flat_prefix = rw (depth-any a.width) (root_prefix c (replicate a.width None) refl)

  module _ (g : ℕ → Option ℕ) (k : ℕ) (more : (q : ℕ) → g q ≡ (if nat_eq 0 q then Some k else f q)) where
    pub top_was : IsOld t a.now 0 k → IsBegun c a.now g
    top_was is =
        let flat : is.cell ≡ replicate a.width None
        = same_mask is.cell (replicate a.width None) t is.below (any_below a.width t (sym c.wide)) (is.long ∙ c.wide
        ∙ sym (length-replicate a.width None)) (is.dims ∙ sym (any_mask a.width)) in
        begun_old c a.now f g (replicate a.width None) 0 k not_begun (none 0) more flat_prefix
        (any_mask a.width) (is.at ∙ ap (λ x. Some x) flat)

    pub top_new : (d : Tree ℕ) → ((l : ℕ) → cell_at a.now l ≢ Some (replicate a.width None)) → map.get a.now k ≡ None
        → map.get d k ≡ Some (new_record a.width a.now None) → ((q : ℕ) → q ≢ k → map.get d q ≡ map.get a.now q)
        → IsBegun c d g
    top_new d new free here others =
        begun_new c a.now f g (replicate a.width None) 0 k not_begun (none 0) more flat_prefix
        (any_mask a.width) d _ free here others refl (record {
          class = refl;
          forced = refl;
          edges = refl;
          parent
              = sym (ap (option_map (λ x. Some x)) (cut (depth-any a.width)));
        }) new
      where
        cut : depth (replicate {A = Option ℕ} a.width None) ≡ 0
            → parent_cell_of nat_cmp (replicate {A = Option ℕ} a.width None) ≡ None
        cut e = cond-true _ _ _ (ap (λ n. nat_eq n 0) e)
