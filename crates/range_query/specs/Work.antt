-- How much a range query looks at.
use Rattle.std.specs.Prelude.{ℕ, zero, suc, ◌+◌, ◌*◌, Option, Some, None, List, [], ◌∷◌, filter, length}
use Rattle.std.specs.declared.cmp.Ordering.{Ordering}
use Rattle.std.specs.Ordering.{eq_by_cmp}
use Rattle.cube_defs.specs.Rows.{Row}
use Rattle.cube_defs.specs.Tree.{covered}
use Rattle.cube_defs.specs.Answers.{Box, in_box}

-- the choices of the first j dimensions, and Any alone after them
abbrev pub prefix_box : {A : Type 0} → ℕ → Box A → Box A
prefix_box j [] = []
prefix_box zero (a ∷ box) = None ∷ prefix_box zero box
prefix_box (suc j) (a ∷ box) = a ∷ prefix_box j box

-- how many values are allowed beside Any
abbrev pub choices : {A : Type 0} → Option (List A) → ℕ
choices None = 0
choices (Some vs) = length vs

-- for each dimension, how many cells are reached before it, times one more than the values that are allowed in it
abbrev pub total_over : {A : Type 0} → (ℕ → ℕ) → Box A → ℕ
total_over reached [] = 0
total_over reached (a ∷ box) = reached 0 * (1 + choices a) + total_over (λ j. reached (suc j)) box

module _ {A : Type 0} (cmp : A → A → Ordering) where
  -- the cells that cover a row, have in the first j dimensions what the box allows, and Any after
  abbrev pub reached : List (Row A) → Box A → ℕ → ℕ
  reached rows box j = length (filter (in_box (eq_by_cmp cmp) (prefix_box j box)) (covered cmp rows))

  abbrev pub work : List (Row A) → Box A → ℕ
  work rows box = total_over (reached rows box) box
