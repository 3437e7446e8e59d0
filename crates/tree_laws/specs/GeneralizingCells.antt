-- The cells that generalize a cell.
use Rattle.std.specs.Prelude.{Some, None, List, [], ◌∷◌, ◌++◌, map}
use Rattle.cube_defs.specs.Cell.{Cell}

-- all cells that generalize one, as long as it, in cell order
abbrev pub below : {A : Type 0} → Cell A → List (Cell A)
below [] = [] ∷ []
below (None ∷ u) = map (λ c. None ∷ c) (below u)
below (Some v ∷ u) = map (λ c. None ∷ c) (below u) ++ map (λ c. Some v ∷ c) (below u)
