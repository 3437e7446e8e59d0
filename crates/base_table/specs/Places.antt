-- What a contract sees of a table: places, each with a row or empty. A row's number is its place.
use Rattle.std.specs.Prelude.{ℕ, ℤ, true, ◌≡◌, ◌<◌, ◌≤◌, ◌+◌, ◌^◌, ◌==◌, Bool, true, not, nat_abs, nat_eq, List, [], ◌∷◌, ◌++◌, length}
use Rattle.std.specs.Prelude.{filter, filter_map, map, slice_index_or, is_some, option_map, pos, replicate, take, ◌-◌, Option, Some, None}
use Rattle.std.specs.Prelude.{IfSome, if◌then◌else◌}
use Rattle.std.specs.List.{All, IsDistinct, find, list_any, range_with_len}
use Rattle.cube_defs.specs.Cell.{Cell, cell_of, cell_eq}
use Rattle.cube_defs.specs.Rows.{Row, Agg, agg_of}
use Rattle.base_table.specs.declared.table.RowNo.{RowNo}
use Rattle.cube_defs.specs.declared.limits.TheConstants.{MAX_AMOUNT, MAX_DIMS, MAX_MEASURES, MAX_ROWS}
use Rattle.cell_core.specs.Entry.{IsCode}

-- rows, and how many dimensions they have
pub record Base : Type 0 where
  pub dims : ℕ
  pub rows : List (Row ℕ)

-- the places now, and where a batch is open the rows and dimensions at its begin
pub record Places : Type 0 where
  pub dims : ℕ
  pub measures : ℕ
  pub max : ℕ
  pub places : List (Option (Row ℕ))
  pub was : Option Base

-- the rows of some places, in their order
abbrev pub rows_in : List (Option (Row ℕ)) → List (Row ℕ)
rows_in places = filter_map (λ place. place) places

abbrev pub rows_of : Places → List (Row ℕ)
rows_of t = rows_in t.places

abbrev pub base_of : Places → Base
base_of t = record { dims = t.dims; rows = rows_of t }

-- the row at a place, where one is
abbrev pub row_at : Places → ℕ → Option (Row ℕ)
row_at t k = slice_index_or t.places k None

-- the places that have a row, rising
abbrev pub numbers : Places → List ℕ
numbers t = filter (λ k. is_some (row_at t k)) (range_with_len 0 (length t.places))

-- the rows with these numbers
abbrev pub named : Places → List RowNo → List (Row ℕ)
named t nos = filter_map (λ no. row_at t no.0) nos

-- each of these numbers is that of a row
abbrev pub AreThere : Places → List RowNo → Type 0
AreThere t nos = All (λ no. is_some (row_at t no.0) ≡ true) nos

abbrev pub has_id : List (Row ℕ) → ℕ → Bool
has_id rows id = list_any (λ row. row.id == id) rows

abbrev pub row_with_id : List (Row ℕ) → ℕ → Option (Row ℕ)
row_with_id rows id = find (λ row. row.id == id) rows

abbrev pub without_id : List (Row ℕ) → ℕ → List (Row ℕ)
without_id rows id = filter (λ row. not (row.id == id)) rows

-- the rows with just this tuple
abbrev pub with_tuple : List (Row ℕ) → Cell ℕ → List (Row ℕ)
with_tuple rows tuple = filter (λ row. cell_eq nat_eq (cell_of row.tuple) tuple) rows

-- what some rows come to, and nothing where there are none
abbrev pub total_of : ℕ → List (Row ℕ) → Option Agg
total_of measures [] = None
total_of measures (row ∷ rows) = Some (agg_of measures (row ∷ rows))

-- the values of a cell, in order; of a tuple's cell these are the tuple
abbrev pub values_of : Cell ℕ → List ℕ
values_of cell = filter_map (λ entry. entry) cell

abbrev pub row_of : ℕ → Cell ℕ → List ℤ → Row ℕ
row_of id tuple amounts = record { id = id; tuple = values_of tuple; amounts = amounts }

-- a place without the row of an id
abbrev pub cleared : ℕ → Option (Row ℕ) → Option (Row ℕ)
cleared id None = None
cleared id (Some row) = if row.id == id then None else Some row

-- a row with one code more, after the others
abbrev pub with_code : ℕ → Row ℕ → Row ℕ
with_code code row = record row { tuple = row.tuple ++ code ∷ [] }

-- a row with its first so many codes alone
abbrev pub narrowed : ℕ → Row ℕ → Row ℕ
narrowed dims row = record row { tuple = take dims row.tuple }

-- one dimension more after the others, in which each row has the code
abbrev pub widened : ℕ → Places → Places
widened code t = record t { dims = t.dims + 1; places = map (option_map (with_code code)) t.places }

-- four amounts, those after the measures zero
abbrev pub padded : List ℤ → List ℤ
padded amounts = amounts ++ replicate (MAX_MEASURES - length amounts) (pos 0)

-- a row that a table with so many dimensions and measures may have
pub record IsRow (dims measures : ℕ) (row : Row ℕ) : Type 0 where
  pub id : row.id < 2 ^ 64
  pub tuple : length row.tuple ≡ dims
  pub codes : All IsCode row.tuple
  pub amounts : length row.amounts ≡ measures
  pub small : All (λ a. nat_abs a ≤ MAX_AMOUNT) row.amounts

pub record AreRows (dims measures max : ℕ) (rows : List (Row ℕ)) : Type 0 where
  pub few : length rows ≤ max
  pub each : All (IsRow dims measures) rows
  pub distinct : IsDistinct nat_eq (map (λ row. row.id) rows)

-- what is true of every table
pub record IsTable (t : Places) : Type 0 where
  pub some_dims : 0 < t.dims
  pub few_dims : t.dims ≤ MAX_DIMS
  pub few_measures : t.measures ≤ MAX_MEASURES
  pub some_rows : 0 < t.max
  pub few_rows : t.max ≤ MAX_ROWS
  pub few_places : length t.places < 2 ^ 32
  pub rows : AreRows t.dims t.measures t.max (rows_of t)
  pub were : IfSome t.was (λ b. AreRows b.dims t.measures t.max b.rows)
