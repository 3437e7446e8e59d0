-- Rows parted by their codes in a dimension.
use Rattle.std.specs.Prelude.{ℕ, ◌==◌, List, [], map, filter, Option, Some, None}
use Rattle.std.specs.Ordering.{nat_cmp}
use Rattle.cube_defs.specs.Rows.{Row}
use Rattle.cube_defs.specs.Tree.{distinct}
use Rattle.cube_laws.specs.Parting.{code_in}
use Rattle.base_table.specs.Places.{Places, row_at}
use Rattle.base_table.specs.declared.table.RowNo.{RowNo}

-- a code, and the rows that have it
pub record PartOf : Type 0 where
  pub code : ℕ
  pub rows : List RowNo

-- stands where there is no part
abbrev pub no_part : PartOf
no_part = record { code = 0; rows = [] }

-- the row's code in dimension k, and 0 where there is no row
abbrev pub row_code : ℕ → Option (Row ℕ) → ℕ
row_code k None = 0
row_code k (Some row) = code_in k row

-- the code in dimension k of the row with this number
abbrev pub code_at : Places → ℕ → RowNo → ℕ
code_at t k row = row_code k (row_at t row.0)

-- those of the rows that have the code v, in their order
abbrev pub with_code : Places → List RowNo → ℕ → ℕ → PartOf
with_code t nos k v = record { code = v; rows = filter (λ no. code_at t k no == v) nos }

-- the rows by their codes in dimension k, codes rising
abbrev pub parted : Places → List RowNo → ℕ → List PartOf
parted t nos k = map (with_code t nos k) (distinct nat_cmp (map (code_at t k) nos))
