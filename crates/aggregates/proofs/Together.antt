-- The aggregate of rows put together.
use Rattle.std.proofs.Common.{◌≡◌, ℕ, zero, suc, ◌<◌, Some, None, List, [], ◌∷◌, ◌++◌, map, length, refl, sym, ap, ap₂, ◌∙◌, arith, ℤ, pos}
use Rattle.std.proofs.Common.{slice_index_or}
use Rattle.std.proofs.lemmas.List.FromFn.{fill_by_all}
use Rattle.std.proofs.lemmas.List.{length-map}
use Rattle.cube_defs.specs.Rows.{Row, Agg, Part, part_of, agg_of}
use Rattle.cube_laws.specs.Total.{total, combine, join_aggs, agg_some}
use Rattle.cube_laws.proofs.CallerLemmas.{IsAddition, aggs_add, agg_total, row_agg}
use Rattle.aggregates.specs.Rows.{agg_of_row}

total-append : {X M : Type 0} (op : M → M → M) (none : M) → IsAddition op none → (f : X → M) (xs ys : List X)
    → total op none f (xs ++ ys) ≡ op (total op none f xs) (total op none f ys)
total-append op none law f [] ys = sym (law.unit _)
total-append op none law f (x ∷ xs) ys = ap (op (f x)) (total-append op none law f xs ys) ∙ sym (law.assoc _ _ _)

some-append : {A : Type 0} (measures : ℕ) (rows more : List (Row A))
    → agg_some measures (rows ++ more) ≡ join_aggs (agg_some measures rows) (agg_some measures more)
some-append measures rows more =
    agg_total measures (rows ++ more)
    ∙ total-append join_aggs None aggs_add (row_agg measures) rows more
    ∙ sym (ap₂ join_aggs (agg_total measures rows) (agg_total measures more))

pub agg_of-append : {A : Type 0} (measures : ℕ) (rows more : List (Row A)) → 0 < length rows → 0 < length more
    → agg_of measures (rows ++ more) ≡ combine (agg_of measures rows) (agg_of measures more)
agg_of-append measures [] more h l = absurd (omega arith)
agg_of-append measures (r ∷ rows) [] h l = absurd (omega arith)
agg_of-append measures (r ∷ rows) (s ∷ more) h l =
    let e : Some (agg_of measures (r ∷ rows ++ s ∷ more))
    ≡ Some (combine (agg_of measures (r ∷ rows)) (agg_of measures (s ∷ more)))
    = some-append measures (r ∷ rows) (s ∷ more) in
    cc

-- a row's part in each measure
abbrev part_at : List ℤ → ℕ → Part
part_at amounts m = part_of (slice_index_or amounts m (pos 0) ∷ [])

abbrev part_with : ℤ → Part
part_with a = record { sum = a; least = a; greatest = a }

pub agg_of-one : {A : Type 0} (row : Row A) → agg_of (length row.amounts) (row ∷ []) ≡ agg_of_row row.amounts
agg_of-one row =
    let each : (k : ℕ) → k < length row.amounts
    → slice_index_or (map part_with row.amounts) k (part_of []) ≡ part_at row.amounts k
    = λ k h. get_or-map_below part_with row.amounts k h in
    ap (λ (ps : List Part). let a : Agg = record { count = 1; parts = ps } in a)
    (sym (fill_by_all (part_at row.amounts) (map part_with row.amounts) (length row.amounts) (part_of [])
    (length-map row.amounts part_with) each))
  where
    get_or-map_below : (f : ℤ → Part) (xs : List ℤ) (k : ℕ) → k < length xs
        → slice_index_or (map f xs) k (part_of []) ≡ f (slice_index_or xs k (pos 0))
    get_or-map_below f [] k h = absurd (omega arith)
    get_or-map_below f (x ∷ xs) zero h = refl
    get_or-map_below f (x ∷ xs) (suc k) h = get_or-map_below f xs k (omega arith)
