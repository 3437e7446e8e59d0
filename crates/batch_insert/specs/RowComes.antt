-- A row that comes to the rows of a tree, whatever these are.
use Rattle.std.specs.Prelude.{◌≡◌, ℕ, ℤ, List, ◌∷◌, ◌++◌, length}
use Rattle.cube_defs.specs.Cell.{Cell, cell_of}
use Rattle.cube_defs.specs.Rows.{Row}
use Rattle.tree_search.specs.Found.{IsTreeOf}
use Rattle.qc_arena.specs.Map.{Arena}

-- this holds of the rows of the arena's tree, of the row, and of these rows with it, wherever it comes
abbrev pub ForRow : Cell ℕ → List ℤ → Arena → (List (Row ℕ) → Row ℕ → List (Row ℕ) → Type 0) → Type 0
ForRow t amounts a Holds =
    (xs : List (Row ℕ)) (row : Row ℕ) (ys : List (Row ℕ)) → cell_of row.tuple ≡ t → row.amounts ≡ amounts
    → IsTreeOf a.width a.now (record { measures = length amounts; rows = xs ++ ys })
    → Holds (xs ++ ys) row (xs ++ row ∷ ys)
