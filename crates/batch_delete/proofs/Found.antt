-- Parts that have all rows of a class between them tell what these share and come to: the other parts are empty.
use Rattle.std.proofs.Common.{◌≡◌, ◌∙◌, ℕ, zero, suc, ◌+◌, Bool, true, false, cond, Option, Some, None, List, [], ◌∷◌, ◌++◌, ap, ap₂, arith}
use Rattle.std.proofs.Common.{drop, length, nat_cmp, nat_eq, not, ◌&&◌, refl, slice_get, sym, take}
use Rattle.std.specs.List.{AllByRecursion, IsDistinct, cons_option}
use Rattle.std.specs.Ordering.{eq_by_cmp}
use Rattle.cube_defs.specs.Cell.{Cell, with_value}
use Rattle.cube_defs.specs.Rows.{Agg, Row, closure, cov, covers}
use Rattle.cube_defs.specs.Tree.{Edge}
use Rattle.cube_laws.specs.Parts.{HasAll}
use Rattle.cube_laws.specs.Total.{agg_at, agg_some, join_aggs, join_cells, total}
use Rattle.cube_laws.proofs.CallerLemmas.{agg_by, closure_by, has_same, aggs_add, cells_add, IsAddition}
use Rattle.batch_delete.specs.declared.parts.Rest.{Rest}
use Rattle.batch_delete.specs.Rests.{Deletion, IsRest, IsTotal, other_values, rows_after, rows_before}
use Rattle.batch_delete.proofs.Counted.{counted, counted_at, counted_join, counted_total, sum_of}
use Rattle.batch_delete.proofs.Labelled.{law}
use Rattle.batch_delete.proofs.Planning.{no_rows}
use Rattle.batch_delete.proofs.Totalled.{unit_behind}

-- items that add nothing can be left out
total_nothing : {M : Type 0} (op : M → M → M) (none : M) → IsAddition op none → (f : ℕ → M) (vs : List ℕ)
    → AllByRecursion (λ x. f x ≡ none) vs → total op none f vs ≡ none
total_nothing op none add f [] h = refl
total_nothing op none add f (x ∷ vs) h = ap₂ op h.0 (total_nothing op none add f vs h.1) ∙ add.unit none

total_append : {M : Type 0} (op : M → M → M) (none : M) → IsAddition op none → (f : ℕ → M) (vs ws : List ℕ)
    → total op none f (vs ++ ws) ≡ op (total op none f vs) (total op none f ws)
total_append op none add f [] ws = sym (add.unit (total op none f ws))
total_append op none add f (x ∷ vs) ws = ap (op (f x)) (total_append op none add f vs ws) ∙ sym (add.assoc _ _ _)

none_counted : (measures : ℕ) (rows : List (Row ℕ)) (c : Cell ℕ)
    → counted (agg_at (eq_by_cmp nat_cmp) measures rows c) ≡ 0 → agg_at (eq_by_cmp nat_cmp) measures rows c ≡ None
none_counted measures rows c e = go (cov (eq_by_cmp nat_cmp) rows c) e
  where
    go : (l : List (Row ℕ)) → counted (agg_some measures l) ≡ 0 → agg_some measures l ≡ None
    go [] e = refl
    go (r ∷ l) e = absurd (omega arith)

all_none : (f : ℕ → Option Agg) (P : ℕ → Type 0) → ((x : ℕ) → counted (f x) ≡ 0 → P x) → (ws : List ℕ)
    → sum_of (λ x. counted (f x)) ws ≡ 0 → AllByRecursion P ws
all_none f P told [] e = tt
all_none f P told (x ∷ ws) e = (told x (omega arith), all_none f P told ws (omega arith))

module _ (d : Deletion) (u : Cell ℕ) (i v : ℕ) (any : slice_get u i ≡ Some None) (has : slice_get d.r.tuple i ≡ Some v)
    (below : covers (eq_by_cmp nat_cmp) u d.r ≡ true)
    (w : Cell ℕ) (closes : closure (eq_by_cmp nat_cmp) (rows_before d) (with_value u i v) ≡ Some w) where
  abbrev cells_of : ℕ → Option (Cell ℕ)
  cells_of x = cond (eq_by_cmp nat_cmp x v) (closure (eq_by_cmp nat_cmp) (rows_after d) w)
      (closure (eq_by_cmp nat_cmp) (rows_before d) (with_value u i x))

  abbrev aggs_of : ℕ → Option Agg
  aggs_of x = cond (eq_by_cmp nat_cmp x v) (agg_at (eq_by_cmp nat_cmp) d.measures (rows_after d) w)
      (agg_at (eq_by_cmp nat_cmp) d.measures (rows_before d) (with_value u i x))

  no_agg : (x : ℕ) → counted (aggs_of x) ≡ 0 → aggs_of x ≡ None
  no_agg x e = go (eq_by_cmp nat_cmp x v) e
    where
      go : (b : Bool) → counted
          (cond b (agg_at (eq_by_cmp nat_cmp) d.measures (rows_after d) w)
          (agg_at (eq_by_cmp nat_cmp) d.measures (rows_before d) (with_value u i x))) ≡ 0
          → cond b (agg_at (eq_by_cmp nat_cmp) d.measures (rows_after d) w)
          (agg_at (eq_by_cmp nat_cmp) d.measures (rows_before d) (with_value u i x)) ≡ None
      go true e = none_counted d.measures (rows_after d) w e
      go false e = none_counted d.measures (rows_before d) (with_value u i x) e

  no_cell : (x : ℕ) → counted (aggs_of x) ≡ 0 → cells_of x ≡ None
  no_cell x e = go (eq_by_cmp nat_cmp x v) e
    where
      go : (b : Bool) → counted
          (cond b (agg_at (eq_by_cmp nat_cmp) d.measures (rows_after d) w)
          (agg_at (eq_by_cmp nat_cmp) d.measures (rows_before d) (with_value u i x))) ≡ 0
          → cond b (closure (eq_by_cmp nat_cmp) (rows_after d) w)
          (closure (eq_by_cmp nat_cmp) (rows_before d) (with_value u i x)) ≡ None
      go true e = no_rows d.measures (rows_after d) w (none_counted d.measures (rows_after d) w e)
      go false e = no_rows d.measures (rows_before d) (with_value u i x)
          (none_counted d.measures (rows_before d) (with_value u i x) e)

  pub all_found : (vs ws : List ℕ) → IsDistinct (eq_by_cmp nat_cmp) (vs ++ ws)
      → HasAll (eq_by_cmp nat_cmp) (rows_after d) u i (vs ++ ws) → (rest : Rest) → IsTotal d u i v w vs (Some rest)
      → rest.agg.count ≡ length (cov (eq_by_cmp nat_cmp) (rows_after d) u)
      → IsRest d.measures (rows_after d) u (Some rest)
  unfolding IsDistinct
  all_found vs ws once all rest had many =
      let same = has_same law i v d.r has in
      let aggs = agg_by law d.xs d.r d.ys u i v any below same d.measures w (vs ++ ws) closes once all in
      let cells = closure_by law d.xs d.r d.ys u i v any below same w (vs ++ ws) closes once all in
      let parts = total_append join_aggs None aggs_add aggs_of vs ws in
      let shared = total_append (join_cells (eq_by_cmp nat_cmp)) None (cells_add law) cells_of vs ws in
      let here : rest.agg.count ≡ counted (total join_aggs None aggs_of vs) = ap counted had.aggs in
      let sum : length (cov (eq_by_cmp nat_cmp) (rows_after d) u) ≡ counted (total join_aggs None aggs_of vs)
      + counted (total join_aggs None aggs_of ws) =
      sym (counted_at d.measures (rows_after d) u) ∙ ap counted (aggs ∙ parts)
      ∙ counted_join (total join_aggs None aggs_of vs) (total join_aggs None aggs_of ws) in
      let others = counted_total aggs_of ws in
      let none : sum_of (λ x. counted (aggs_of x)) ws ≡ 0 = omega arith in
      let no_aggs = total_nothing join_aggs None aggs_add aggs_of ws
      (all_none aggs_of (λ x. aggs_of x ≡ None) no_agg ws none) in
      let no_cells = total_nothing (join_cells (eq_by_cmp nat_cmp)) None (cells_add law) cells_of ws
      (all_none aggs_of (λ x. cells_of x ≡ None) no_cell ws none) in
      record {
        cells = had.cells ∙ sym (cells ∙ shared
            ∙ ap (join_cells (eq_by_cmp nat_cmp) (total (join_cells (eq_by_cmp nat_cmp)) None cells_of vs)) no_cells
            ∙ unit_behind (join_cells (eq_by_cmp nat_cmp)) None (cells_add law) _);
        aggs = had.aggs ∙ sym (aggs ∙ parts ∙ ap (join_aggs (total join_aggs None aggs_of vs)) no_aggs
            ∙ unit_behind join_aggs None aggs_add _);
      }

-- the values of the first labels and those of the others
pub others_split : (i v : ℕ) (es : List (Edge ℕ ℕ)) (k : ℕ)
    → other_values i v (take k es) ++ other_values i v (drop k es) ≡ other_values i v es
others_split i v [] zero = refl
others_split i v [] (suc k) = refl
others_split i v (x ∷ es) zero = refl
others_split i v (x ∷ es) (suc k)
    = behind (cond (nat_eq x.dim i && not (nat_eq x.value v)) (Some x.value) None) (other_values i v (take k es))
    (other_values i v (drop k es))
    ∙ ap (cons_option (cond (nat_eq x.dim i && not (nat_eq x.value v)) (Some x.value) None)) (others_split i v es k)
  where
    behind : (o : Option ℕ) (xs ys : List ℕ) → cons_option o xs ++ ys ≡ cons_option o (xs ++ ys)
    behind None xs ys = refl
    behind (Some x) xs ys = refl
