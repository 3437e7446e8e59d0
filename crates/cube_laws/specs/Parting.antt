-- What rows share, and rows parted by their codes in a dimension.
use Rattle.std.specs.Prelude.{ℕ, ◌==◌, nat_eq, Option, Some, None, List, [], map, filter, slice_index_or}
use Rattle.std.specs.Ordering.{nat_cmp}
use Rattle.cube_defs.specs.Cell.{Cell, cell_of}
use Rattle.cube_defs.specs.Rows.{Row, meet_all}
use Rattle.cube_defs.specs.Tree.{distinct}

-- the cell, or the empty one where there is none
abbrev pub or_empty : Option (Cell ℕ) → Cell ℕ
or_empty None = []
or_empty (Some u) = u

-- the values that all the rows have, and Any where they differ
abbrev pub shared_by : List (Row ℕ) → Cell ℕ
shared_by rows = or_empty (meet_all nat_eq (map (λ row. cell_of row.tuple) rows))

-- the row's code in dimension k
abbrev pub code_in : ℕ → Row ℕ → ℕ
code_in k row = slice_index_or row.tuple k 0

-- the rows with the code v in dimension k
abbrev pub part_at : ℕ → List (Row ℕ) → ℕ → List (Row ℕ)
part_at k rows v = filter (λ row. code_in k row == v) rows

-- the codes of the rows in dimension k, rising
abbrev pub codes_in : ℕ → List (Row ℕ) → List ℕ
codes_in k rows = distinct nat_cmp (map (code_in k) rows)
