-- The cells of a box that cover a row, dimension by dimension.
use Rattle.std.specs.Prelude.{ℕ, suc, ◌+◌, Bool, Option, Some, None, List, [], ◌∷◌, flat_map, sum_by, slice_set, is_some, if◌then◌else◌}
use Rattle.cube_defs.specs.Cell.{Cell, with_value}
use Rattle.cube_defs.specs.Rows.{Row, closure}
use Rattle.cube_defs.specs.Answers.{Box}

module _ {A : Type 0} (eq : A → A → Bool) (rows : List (Row A)) where
  -- the cell covers a row
  abbrev pub is_covered : Cell A → Bool
  is_covered c = is_some (closure eq rows c)

  -- what comes of a cell, if it covers a row
  abbrev pub if_covered : {X : Type 0} → X → (Cell A → X) → Cell A → X
  if_covered none f c = if is_covered c then f c else none

  -- on from the cell p, which has Any from dimension i on: the box tells what is allowed in these dimensions
  abbrev pub met : Box A → Cell A → ℕ → List (Cell A)
  met [] p i = p ∷ []
  met (None ∷ box) p i = met box p (suc i)
  met (Some vs ∷ box) p i = flat_map (λ v. if_covered [] (λ q. met box q (suc i)) (with_value p i v)) vs

  -- at most so many steps: one for the forced child of a node that is reached, one for each label that is looked up,
  -- and one for
  -- a cell's aggregate
  abbrev pub cost : Box A → Cell A → ℕ → ℕ
  cost [] p i = 2
  cost (None ∷ box) p i = 1 + cost box p (suc i)
  cost (Some vs ∷ box) p i = 1 + sum_by (λ v. 1 + if_covered 0 (λ q. cost box q (suc i)) (with_value p i v)) vs

  -- the same where the entry e is put into p in dimension i
  abbrev pub entered : Box A → Cell A → ℕ → Option A → List (Cell A)
  entered box p i e = if_covered [] (λ q. met box q (suc i)) (slice_set p i e)

  -- and what it costs, where finding out that no row is left costs so many steps
  abbrev pub entry_cost : ℕ → Box A → Cell A → ℕ → Option A → ℕ
  entry_cost each box p i e = each + if_covered 0 (λ q. cost box q (suc i)) (slice_set p i e)
