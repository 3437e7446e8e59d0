-- The measure of a kind: that it is there, its scale, and its index.
use Rattle.std.proofs.Common.{◌≡◌, ℕ, zero, suc, Bool, true, false, ◌||◌, List, [], ◌∷◌, map, get_or, refl, sym, ap, subst, ◌∙◌}
use Rattle.std.specs.Prelude.{IsSome}
use Rattle.std.specs.List.{list_any}
use Rattle.std.proofs.lemmas.Bool.{cond-false, cond-true}
use Rattle.aggregates.specs.Views.{IsThere, kind_in, same_kind}
use Rattle.aggregates.specs.declared.kind.AggKind.{AggKind}
use Rattle.aggregates.specs.declared.kind.AggKind.TheVariants as kinds
use Rattle.measure_index.specs.Index.{ranking_of, units}
use Rattle.measure_index.specs.Rankings.{Ranking}
use Rattle.qc_schema.specs.Schema.{Layout, Measure, no_measure}
use Rattle.query_script.specs.Commands.{IsMeasured}
use Rattle.warehouse.specs.State.{scale_in}
use Rattle.query_answers.specs.Queries.{scale_of}

pub measure-there : (measures : ℕ) (kind : AggKind) → IsMeasured measures (kind_in kind) → IsThere measures kind
measure-there measures kinds.Count h = tt
measure-there measures _ h = h

-- the scale that an index keeps
pub scale-is : (schema : Layout) (kind : AggKind) → scale_in schema kind ≡ scale_of schema.measures (kind_in kind)
scale-is schema kind = go kind
  where
    at : (measures : List Measure) (m : ℕ)
        → get_or (map (λ x. x.scale) measures) m 0 ≡ (get_or measures m no_measure).scale
    at [] m = refl
    at (x ∷ measures) zero = refl
    at (x ∷ measures) (suc m) = at measures m

    go : (kind : AggKind) → scale_in schema kind ≡ scale_of schema.measures (kind_in kind)
    go kinds.Count = refl
    go (kinds.Sum m) = at schema.measures m
    go (kinds.Least m) = at schema.measures m
    go (kinds.Greatest m) = at schema.measures m
    go (kinds.Mean m) = at schema.measures m

-- a kind that the schema names is in the index
pub named-kept : (schema : Layout) (kind : AggKind) (index : List Ranking) (kinds : List AggKind)
    → units index ≡ map (λ k. (k, scale_in schema k)) kinds → list_any (same_kind kind) kinds ≡ true
    → IsSome (ranking_of kind index)
named-kept schema kind [] [] e named = cc
named-kept schema kind [] (k ∷ kinds) e named = cc
named-kept schema kind (r ∷ index) [] e named = cc
named-kept schema kind (r ∷ index) (k ∷ kinds) e named =
    let first : ◌≡◌ {A = AggKind × ℕ} (r.kind, r.scale) (k, scale_in schema k) = cc in
    let rest : units index ≡ map (λ k. (k, scale_in schema k)) kinds = cc in
    go (same_kind kind r.kind) refl (ap (λ q. same_kind kind q || list_any (same_kind kind) kinds) (ap (λ p. p.0) first)
    ∙ named) (λ later. named-kept schema kind index kinds rest later)
  where
    go : (b : Bool) → same_kind kind r.kind ≡ b → (same_kind kind r.kind || list_any (same_kind kind) kinds) ≡ true
        → (list_any (same_kind kind) kinds ≡ true → IsSome (ranking_of kind index))
        → IsSome (ranking_of kind (r ∷ index))
    go true f known more = subst (λ o. IsSome o) (sym (cond-true _ _ _ f)) refl
    go false f known more =
        subst (λ o. IsSome o) (sym (cond-false _ _ _ f))
        (more (ap (λ b. b || list_any (same_kind kind) kinds) (sym f) ∙ known))
