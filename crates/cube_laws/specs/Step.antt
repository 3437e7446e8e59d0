-- The step of a deletion, from a cell to a more specific one.
use Rattle.std.specs.Prelude.{◌≡◌, ℕ, ◌<◌, Bool, true, false, Some, None, List, ◌∷◌, ◌++◌, if◌then◌else◌}
use Rattle.std.specs.List.{IsDistinct}
use Rattle.cube_defs.specs.Cell.{Cell, with_value}
use Rattle.cube_defs.specs.Rows.{Row, covers, cov, closure}
use Rattle.cube_laws.specs.Parts.{HasAll, value_count}
use Rattle.cube_laws.specs.Total.{total, join_cells, join_aggs, agg_at}

-- r goes from the rows xs ++ r ∷ ys; u covers it and has Any in dimension i, where r has t
pub record IsStep {A : Type 0} (eq : A → A → Bool) (xs : List (Row A)) (r : Row A) (ys : List (Row A)) (u : Cell A)
    (i : ℕ) (t : A) (w : Cell A) : Type 0 where
  -- w was the closure of u + (i, t); it covers r too, and has more values than u
  pub closes : closure eq (xs ++ r ∷ ys) (with_value u i t) ≡ Some w
  pub covers_r : covers eq w r ≡ true
  pub more_values : value_count u < value_count w
  -- w and u + (i, t) cover the same rows before and afterwards
  pub same_before : cov eq (xs ++ r ∷ ys) (with_value u i t) ≡ cov eq (xs ++ r ∷ ys) w
  pub same_after : cov eq (xs ++ ys) (with_value u i t) ≡ cov eq (xs ++ ys) w
  -- the part of another value does not cover r, so all it says stays
  pub others : (v : A) → eq v t ≡ false → covers eq (with_value u i v) r ≡ false
  -- the new closure and aggregate of u, from the new ones of w and the old ones of the other parts
  pub new_closure : (vs : List A) → IsDistinct eq vs → HasAll eq (xs ++ ys) u i vs
      → closure eq (xs ++ ys) u ≡ total (join_cells eq) None (λ v. if eq v t then closure eq (xs ++ ys) w
      else closure eq (xs ++ r ∷ ys) (with_value u i v)) vs
  pub new_aggregate : (measures : ℕ) (vs : List A) → IsDistinct eq vs → HasAll eq (xs ++ ys) u i vs
      → agg_at eq measures (xs ++ ys) u ≡ total join_aggs None (λ v. if eq v t then agg_at eq measures (xs ++ ys) w
      else agg_at eq measures (xs ++ r ∷ ys) (with_value u i v)) vs
