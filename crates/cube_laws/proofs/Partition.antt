-- The rows that a cell with Any in a dimension covers are parted by their values there: its closure is the meet of the
-- parts' closures, and its aggregate is the parts' put together.
use Rattle.std.proofs.Common.{◌≡◌, ℕ, zero, suc, Bool, true, false, ◌&&◌, Option, Some, None, List, [], ◌∷◌, filter, refl, sym, ap, ◌∙◌}
use Rattle.std.proofs.Common.{true≢false, slice_get}
use Rattle.std.specs.List.{IsDistinct}
use Rattle.std.proofs.lemmas.Bool.{and_parts, and_from}
use Rattle.std.specs.Option.{option_eq}
use Rattle.cube_defs.specs.Cell.{Cell, leq, entry_leq, cell_of, with_value}
use Rattle.cube_defs.specs.Rows.{Row, covers, cov, closure}
use Rattle.cube_laws.specs.Total.{total, join_aggs, join_cells, agg_at}
use Rattle.cube_laws.specs.Parts.{has_value, HasAll}
use Rattle.cube_laws.proofs.Cells.{IsEquality, leq_refl}
use Rattle.cube_laws.proofs.Lists.{filter_same, always, filter_and}
use Rattle.cube_laws.proofs.Totals.{total-parts, total_same}
use Rattle.cube_laws.proofs.RowTotals.{cells_add, aggs_add, row_cell, row_agg, closure_total, agg_total}

module _ {A : Type 0} {eq : A → A → Bool} (law : IsEquality eq) where
  and_swap : (a b : Bool) → (a && b) ≡ (b && a)
  and_swap true true = refl
  and_swap true false = refl
  and_swap false true = refl
  and_swap false false = refl

  and_move : (a b d : Bool) → (a && (b && d)) ≡ (a && b && d)
  and_move true b d = refl
  and_move false b d = refl

  pub leq_with : (u : Cell A) (i : ℕ) (v : A) (t : List A) → slice_get u i ≡ Some None
      → leq eq (with_value u i v) (cell_of t) ≡ (leq eq u (cell_of t) && option_eq eq (Some v) (slice_get t i))
  leq_with [] i v t h = cc
  leq_with (e ∷ u) zero v [] h = refl
  leq_with (e ∷ u) (suc i) v [] h = refl
  leq_with (e ∷ u) zero v (x ∷ t) h = let is : e ≡ None = cc in and_swap (eq v x) (leq eq u (cell_of t))
      ∙ ap (λ f. entry_leq eq f (Some x) && leq eq u (cell_of t) && eq v x) (sym is)
  leq_with (e ∷ u) (suc i) v (x ∷ t) h = ap (λ b. entry_leq eq e (Some x) && b) (leq_with u i v t h)
      ∙ and_move (entry_leq eq e (Some x)) (leq eq u (cell_of t)) (option_eq eq (Some v) (slice_get t i))

  -- a value where there was none leads to a greater cell
  pub leq_with_any : (u : Cell A) (i : ℕ) (v : A) → slice_get u i ≡ Some None → leq eq u (with_value u i v) ≡ true
  leq_with_any [] i v h = refl
  leq_with_any (None ∷ u) zero v h = leq_refl law u
  leq_with_any (Some a ∷ u) zero v h = cc
  leq_with_any (f ∷ u) (suc i) v h
      = and_from _ _ (and_parts (entry_leq eq f f) (leq eq u u) (leq_refl law (f ∷ u))).0 (leq_with_any u i v h)

  pub covers_with : (u : Cell A) (i : ℕ) (v : A) (r : Row A) → slice_get u i ≡ Some None
      → covers eq (with_value u i v) r ≡ (covers eq u r && has_value eq i v r)
  covers_with u i v r h = leq_with u i v r.tuple h

  -- the part of u's rows with v in dimension i
  pub cov_with : (rows : List (Row A)) (u : Cell A) (i : ℕ) (v : A) → slice_get u i ≡ Some None
      → cov eq rows (with_value u i v) ≡ filter (has_value eq i v) (cov eq rows u)
  cov_with rows u i v h = filter_same _ _ rows (always _ rows (λ r. covers_with u i v r h))
      ∙ filter_and (covers eq u) (has_value eq i v) rows

  pub has_exact : (i : ℕ) (v : A) (r : Row A) → has_value eq i v r ≡ true → slice_get r.tuple i ≡ Some v
  has_exact i v r h = go (slice_get r.tuple i) h
    where
      go : (o : Option A) → option_eq eq (Some v) o ≡ true → o ≡ Some v
      go None h = absurd (true≢false (sym h))
      go (Some x) h = ap (λ y. Some y) (sym (law.exact v x h))

  pub has_same : (i : ℕ) (v : A) (r : Row A) → slice_get r.tuple i ≡ Some v → has_value eq i v r ≡ true
  has_same i v r h = ap (option_eq eq (Some v)) h ∙ law.same v

  pub alone : (i : ℕ) (v w : A) (r : Row A) → eq v w ≡ false → has_value eq i w r ≡ true → has_value eq i v r ≡ false
  alone i v w r apart h = ap (option_eq eq (Some v)) (has_exact i w r h) ∙ apart

  pub closure_parts : (rows : List (Row A)) (u : Cell A) (i : ℕ) (vs : List A) → slice_get u i ≡ Some None
      → IsDistinct eq vs → HasAll eq rows u i vs
      → closure eq rows u ≡ total (join_cells eq) None (λ v. closure eq rows (with_value u i v)) vs
  unfolding IsDistinct
  closure_parts rows u i vs h once all =
      closure_total eq rows u
      ∙ total-parts (join_cells eq) None (cells_add law) eq row_cell (has_value eq i) (alone i) vs
      (cov eq rows u) once all
      ∙ total_same (join_cells eq) None (cells_add law) _ (λ v. closure eq rows (with_value u i v)) vs
      (always _ vs (λ v. ap (total (join_cells eq) None row_cell) (sym (cov_with rows u i v h))
      ∙ sym (closure_total eq rows (with_value u i v))))

  pub agg_parts : (measures : ℕ) (rows : List (Row A)) (u : Cell A) (i : ℕ) (vs : List A) → slice_get u i ≡ Some None
      → IsDistinct eq vs → HasAll eq rows u i vs
      → agg_at eq measures rows u ≡ total join_aggs None (λ v. agg_at eq measures rows (with_value u i v)) vs
  unfolding IsDistinct
  agg_parts measures rows u i vs h once all =
      agg_total measures (cov eq rows u)
      ∙ total-parts join_aggs None aggs_add eq (row_agg measures) (has_value eq i) (alone i) vs (cov eq rows u) once all
      ∙ total_same join_aggs None aggs_add _ (λ v. agg_at eq measures rows (with_value u i v)) vs
      (always _ vs (λ v. ap (total join_aggs None (row_agg measures)) (sym (cov_with rows u i v h))
      ∙ sym (agg_total measures (cov eq rows (with_value u i v)))))
