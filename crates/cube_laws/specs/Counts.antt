-- How many rows a cell covers.
use Rattle.std.specs.Prelude.{ℕ, Bool, List, length}
use Rattle.cube_defs.specs.Cell.{Cell}
use Rattle.cube_defs.specs.Rows.{Row, cov}

abbrev pub count : {A : Type 0} → (A → A → Bool) → List (Row A) → Cell A → ℕ
count eq rows c = length (cov eq rows c)
