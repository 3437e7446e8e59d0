-- A class loses the row r: its new closure and aggregate, from those of more specific classes.
use Rattle.std.proofs.Common.{length, ◌+◌, ◌≡◌, ℕ, zero, suc, ◌<◌, ◌≤◌, Bool, true, false, cond, Option, Some, None, List, [], ◌∷◌, ◌++◌}
use Rattle.std.proofs.Common.{refl, sym, ap, ◌∙◌, true≢false, arith, slice_get}
use Rattle.std.specs.List.{IsDistinct}
use Rattle.std.proofs.lemmas.Bool.{and_parts, and_from, cond-true, cond_both, and_right}
use Rattle.cube_defs.specs.Cell.{Cell, leq, entry_leq, cell_of, with_value}
use Rattle.cube_defs.specs.Rows.{Row, covers, cov, closure, meet_after}
use Rattle.cube_laws.specs.Step.{IsStep}
use Rattle.cube_laws.specs.Total.{total, join_aggs, join_cells, agg_at, agg_some}
use Rattle.cube_laws.proofs.Lists.{filter_same, always, all-insert}
use Rattle.cube_laws.proofs.Cells.{IsEquality}
use Rattle.cube_laws.proofs.Closures.{cov-closure, all_cells, closure_covers, leq-closure}
use Rattle.cube_laws.proofs.Totals.{total_same}
use Rattle.cube_laws.proofs.RowTotals.{cells_add, aggs_add, row_cell, closure_total}
use Rattle.cube_laws.specs.Parts.{value_count, has_value, HasAll}
use Rattle.cube_laws.proofs.Partition.{closure_parts, agg_parts, covers_with, alone}
use Rattle.cube_laws.proofs.OneRow.{closure-insert, closure_stays, cov_stays, below_row}

module _ {A : Type 0} {eq : A → A → Bool} (law : IsEquality eq) where
  entry_values : (e f : Option A) (c d : Cell A) → entry_leq eq e f ≡ true → value_count c ≤ value_count d
      → value_count (e ∷ c) ≤ value_count (f ∷ d)
  entry_values None None c d h k = k
  entry_values None (Some w) c d h k = omega arith
  entry_values (Some v) None c d h k = absurd (true≢false (sym h))
  entry_values (Some v) (Some w) c d h k = omega arith

  pub values_mono : (c d : Cell A) → leq eq c d ≡ true → value_count c ≤ value_count d
  values_mono [] d h = omega arith
  values_mono (e ∷ c) [] h = absurd (true≢false (sym h))
  values_mono (e ∷ c) (f ∷ d) h = let p = and_parts (entry_leq eq e f) (leq eq c d) h in
      entry_values e f c d p.0 (values_mono c d p.1)

  pub values_with : (c : Cell A) (i : ℕ) (v : A) → slice_get c i ≡ Some None
      → value_count (with_value c i v) ≡ suc (value_count c)
  values_with [] i v h = cc
  values_with (None ∷ c) zero v h = refl
  values_with (Some w ∷ c) zero v h = cc
  values_with (None ∷ c) (suc i) v h = values_with c i v h
  values_with (Some w ∷ c) (suc i) v h = ap suc (values_with c i v h)

  pub values-tuple : (c : Cell A) (t : List A) → leq eq c (cell_of t) ≡ true → value_count c ≤ length t
  values-tuple [] t h = omega arith
  values-tuple (e ∷ c) [] h = absurd (true≢false (sym h))
  values-tuple (None ∷ c) (x ∷ t) h = let m : value_count c ≤ length t
      = values-tuple c t (and_parts true (leq eq c (cell_of t)) h).1 in omega arith
  values-tuple (Some v ∷ c) (x ∷ t) h = let m : value_count c ≤ length t
      = values-tuple c t (and_parts (eq v x) (leq eq c (cell_of t)) h).1 in omega arith

  module _ (xs : List (Row A)) (r : Row A) (ys : List (Row A)) where
    -- a cell and its old closure cover the same rows afterwards
    pub cov_after : (c w : Cell A) → closure eq (xs ++ r ∷ ys) c ≡ Some w → cov eq (xs ++ ys) c ≡ cov eq (xs ++ ys) w
    cov_after c w e =
        filter_same (covers eq c) (covers eq w) (xs ++ ys)
        (all-insert (λ row. covers eq c row ≡ covers eq w row) xs r ys
        ((all_cells (λ d. leq eq c d ≡ leq eq w d) (xs ++ r ∷ ys)).0 (closure_covers law (xs ++ r ∷ ys) c w e))).0

    pub closure_after : (c w : Cell A) → closure eq (xs ++ r ∷ ys) c ≡ Some w
        → closure eq (xs ++ ys) c ≡ closure eq (xs ++ ys) w
    closure_after c w e = closure_total eq (xs ++ ys) c ∙ ap (total (join_cells eq) None row_cell) (cov_after c w e)
        ∙ sym (closure_total eq (xs ++ ys) w)

    pub agg_after : (measures : ℕ) (c w : Cell A) → closure eq (xs ++ r ∷ ys) c ≡ Some w
        → agg_at eq measures (xs ++ ys) c ≡ agg_at eq measures (xs ++ ys) w
    agg_after measures c w e = ap (agg_some measures) (cov_after c w e)

    -- u has Any in dimension i, u <= r, and t is r's value there: the step of the induction on the falling number of
    -- values
    module _ (u : Cell A) (i : ℕ) (t : A) (any : slice_get u i ≡ Some None) (above : covers eq u r ≡ true)
        (has : has_value eq i t r ≡ true) where
      with_above : covers eq (with_value u i t) r ≡ true
      with_above = covers_with law u i t r any ∙ and_from _ _ above has

      pub step_exists : (w : Cell A) × (closure eq (xs ++ r ∷ ys) (with_value u i t) ≡ Some w)
      step_exists = (
        meet_after eq (cell_of r.tuple) (closure eq (xs ++ ys) (with_value u i t)),
        closure-insert law xs r ys (with_value u i t) ∙ cond-true _ _ _ with_above,
      )

      pub step_above : (w : Cell A) → closure eq (xs ++ r ∷ ys) (with_value u i t) ≡ Some w → covers eq w r ≡ true
      step_above w e = below_row law xs r ys (with_value u i t) w with_above e

      pub step_more : (w : Cell A) → closure eq (xs ++ r ∷ ys) (with_value u i t) ≡ Some w
          → value_count u < value_count w
      step_more w e =
          let a : value_count (with_value u i t) ≤ value_count w
          = values_mono (with_value u i t) w (leq-closure law (xs ++ r ∷ ys) (with_value u i t) w e) in
          let b : value_count (with_value u i t) ≡ suc (value_count u) = values_with u i t any in
          omega arith

      -- the part of another value stays
      pub other_below : (v : A) → eq v t ≡ false → covers eq (with_value u i v) r ≡ false
      other_below v apart = covers_with law u i v r any
          ∙ and_right (covers eq u r) (has_value eq i v r) (alone law i v t r apart has)

      -- the new closure and aggregate by the values, from the new ones of w and the old ones of the other parts
      pub closure_by : (w : Cell A) (vs : List A) → closure eq (xs ++ r ∷ ys) (with_value u i t) ≡ Some w
          → IsDistinct eq vs → HasAll eq (xs ++ ys) u i vs
          → closure eq (xs ++ ys) u ≡ total (join_cells eq) None
          (λ v. cond (eq v t) (closure eq (xs ++ ys) w) (closure eq (xs ++ r ∷ ys) (with_value u i v))) vs
      unfolding IsDistinct
      closure_by w vs e once all =
          closure_parts law (xs ++ ys) u i vs any once all
          ∙ total_same (join_cells eq) None (cells_add law) _ _ vs
          (always _ vs (λ v. cond_both (eq v t) _ _ (λ o. closure eq (xs ++ ys) (with_value u i v) ≡ o)
          (λ h. ap (λ x. closure eq (xs ++ ys) (with_value u i x)) (law.exact v t h)
          ∙ closure_after (with_value u i t) w e)
          (λ h. sym (closure_stays law xs r ys (with_value u i v) (other_below v h)))))

      pub agg_by : (measures : ℕ) (w : Cell A) (vs : List A) → closure eq (xs ++ r ∷ ys) (with_value u i t) ≡ Some w
          → IsDistinct eq vs → HasAll eq (xs ++ ys) u i vs
          → agg_at eq measures (xs ++ ys) u ≡ total join_aggs None
          (λ v. cond (eq v t) (agg_at eq measures (xs ++ ys) w)
          (agg_at eq measures (xs ++ r ∷ ys) (with_value u i v))) vs
      unfolding IsDistinct
      agg_by measures w vs e once all =
          agg_parts law measures (xs ++ ys) u i vs any once all
          ∙ total_same join_aggs None aggs_add _ _ vs
          (always _ vs (λ v. cond_both (eq v t) _ _ (λ o. agg_at eq measures (xs ++ ys) (with_value u i v) ≡ o)
          (λ h. ap (λ x. agg_at eq measures (xs ++ ys) (with_value u i x)) (law.exact v t h)
          ∙ agg_after measures (with_value u i t) w e)
          (λ h. sym (ap (agg_some measures) (cov_stays law xs r ys (with_value u i v) (other_below v h))))))

      -- the step as a whole
      pub step : (w : Cell A) × IsStep eq xs r ys u i t w
      step = (
        step_exists.0,
        record {
          closes = step_exists.1;
          covers_r = step_above step_exists.0 step_exists.1;
          more_values = step_more step_exists.0 step_exists.1;
          same_before = cov-closure law (xs ++ r ∷ ys) (with_value u i t) step_exists.0 step_exists.1;
          same_after = cov_after (with_value u i t) step_exists.0 step_exists.1;
          others = other_below;
          new_closure = λ vs once all. closure_by step_exists.0 vs step_exists.1 once all;
          new_aggregate = λ measures vs once all. agg_by measures step_exists.0 vs step_exists.1 once all;
        },
      )

  -- an induction from the most specific cell that generalizes a tuple upwards
  module _ (P : Cell A → Type 0) (t : List A) (by : (u : Cell A) → leq eq u (cell_of t) ≡ true
      → ((w : Cell A) → leq eq w (cell_of t) ≡ true → value_count u < value_count w → P w) → P u) where
    within : (n : ℕ) (u : Cell A) → leq eq u (cell_of t) ≡ true → length t ≤ value_count u + n → P u
    within zero u h l = by u h (λ w k m. absurd (let a : value_count w ≤ length t = values_le w k in omega arith))
      where
        values_le : (w : Cell A) → leq eq w (cell_of t) ≡ true → value_count w ≤ length t
        values_le w k = values-tuple w t k
    within (suc n) u h l = by u h (λ w k m. within n w k (omega arith))

    pub from_most_specific : (u : Cell A) → leq eq u (cell_of t) ≡ true → P u
    from_most_specific u h = within (length t) u h (omega arith)
