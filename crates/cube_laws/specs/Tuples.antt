-- Rows by their tuples.
use Rattle.std.specs.Prelude.{◌≡◌, List, map}
use Rattle.cube_defs.specs.Cell.{Cell, cell_of}
use Rattle.cube_defs.specs.Rows.{Row}
use Rattle.cube_laws.specs.Lists.{Among}

-- each tuple of the rows is that of one of the others
abbrev pub TuplesAmong : {A : Type 0} → List (Row A) → List (Row A) → Type 0
TuplesAmong {A} rows more = (r : Row A) → Among r rows → (s : Row A) × Among s more × (s.tuple ≡ r.tuple)

-- the rows as cells
abbrev pub cells_of : {A : Type 0} → List (Row A) → List (Cell A)
cells_of rows = map (λ row. cell_of row.tuple) rows
