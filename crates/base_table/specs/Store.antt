-- What a store of rows keeps: the ids, the codes and the amounts of its rows, each in one list; and
-- what a table keeps: a store, and for each row of it whether the row is still there.
use Rattle.std.specs.Prelude.{◌≡◌, ℕ, ℤ, ◌+◌, ◌*◌, ◌%◌, ◌^◌, ◌<◌, ◌≤◌, ◌++◌, Bool, true, false, cond, ◌&&◌, if◌then◌else◌, Option, Some}
use Rattle.std.specs.Prelude.{None, List, [], ◌∷◌, length, map, take, drop, fold, nat_eq, slice_index_or, slice_set, suc, zero}
use Rattle.std.specs.List.{All}
use Rattle.aggregates.specs.Rows.{agg_of_row}
use Rattle.cube_defs.specs.Cell.{Cell, cell_eq, cell_of}
use Rattle.cube_defs.specs.Rows.{Agg, Row}
use Rattle.base_table.specs.declared.fingerprints.Fingerprinter.{Fingerprinter}
use Rattle.base_table.specs.declared.fingerprints.TheConstants.{PRIME}
use Rattle.base_table.specs.Last.{last_of, picked}
use Rattle.base_table.specs.Places.{Base, IsRow, Places, narrowed}
use Rattle.cube_defs.specs.declared.limits.TheConstants.{MAX_DIMS, MAX_MEASURES, MAX_ROWS}

-- rows in the order in which they came
pub record StoredRows : Type 0 where
  pub dims : ℕ
  -- how many dimensions there were when the rows were settled last
  pub dims_then : ℕ
  -- how a tuple's number is made
  pub printer : Fingerprinter
  pub measures : ℕ
  pub rows : List (Row ℕ)

-- the rows with these ids, whose codes and amounts lie one after another
abbrev pub rows_from : ℕ → ℕ → List ℕ → List ℕ → List ℤ → List (Row ℕ)
rows_from dims measures [] codes amounts = []
rows_from dims measures (id ∷ ids) codes amounts =
    record { id = id; tuple = take dims codes; amounts = take measures amounts }
    ∷ rows_from dims measures ids (drop dims codes) (drop measures amounts)

-- of lists of one width that lie one after another, those whose mark is set
abbrev pub picked_lines : {A : Type 0} → ℕ → List Bool → List A → List A
picked_lines width [] cells = []
picked_lines width (b ∷ kept) cells = cond b (take width cells) [] ++ picked_lines width kept (drop width cells)

-- the code of an entry, and of Any a number that no code is
abbrev pub code_or_any : Option ℕ → ℕ
code_or_any None = 4294967295
code_or_any (Some code) = code

-- a number that equal cells share
abbrev pub fingerprint : ℕ → Cell ℕ → ℕ
fingerprint multiplier cell = fold (λ h entry. (h * multiplier + code_or_any entry) % PRIME) 0 cell

-- the number of a cell, made of its first entries
abbrev pub print_in : Fingerprinter → Cell ℕ → ℕ
print_in printer cell = fingerprint printer.multiplier (take printer.dims cell)

-- a row's id, and its tuple's number
abbrev pub id_of : Row ℕ → ℕ
id_of row = row.id

abbrev pub print_of : Fingerprinter → Row ℕ → ℕ
print_of printer row = print_in printer (cell_of row.tuple)

-- of lists of one width that lie one after another, each with one element more after it
abbrev pub longer_lines : {A : Type 0} → ℕ → A → ℕ → List A → List A
longer_lines width x zero cells = []
longer_lines width x (suc lines) cells = (take width cells ++ x ∷ []) ++ longer_lines width x lines (drop width cells)

-- of lists of one width that lie one after another, the first elements of each
abbrev pub shorter_lines : {A : Type 0} → ℕ → ℕ → ℕ → List A → List A
shorter_lines width first zero cells = []
shorter_lines width first (suc lines) cells = take first cells ++ shorter_lines width first lines (drop width cells)

-- each row has its codes, its amounts and its tuple's number
pub record IsStore (dims measures : ℕ) (printer : Fingerprinter) (dims_then : ℕ) (ids prints codes : List ℕ)
    (amounts : List ℤ) (room : ℕ) : Type 0 where
  pub few_dims : dims ≤ MAX_DIMS
  pub few_measures : measures ≤ MAX_MEASURES
  pub codes_len : length codes ≡ length ids * dims
  pub amounts_len : length amounts ≡ length ids * measures
  pub printer_le : printer.dims ≤ dims_then
  pub then_le : dims_then ≤ dims
  -- so that a dimension more takes no memory
  pub room_for_all : length ids * MAX_DIMS ≤ room
  pub prints_are : prints ≡ map (print_of printer) (rows_from dims measures ids codes amounts)
  pub each : All (IsRow dims measures) (rows_from dims measures ids codes amounts)

-- the rows that are here at their places
abbrev pub placed : List Bool → List (Row ℕ) → List (Option (Row ℕ))
placed [] rows = []
placed (b ∷ here) [] = []
placed (b ∷ here) (row ∷ rows) = (if b then Some row else None) ∷ placed here rows

-- the marks once those at these places are set again
abbrev pub restored : List ℕ → List Bool → List Bool
restored touched here = fold (λ marks k. slice_set marks k true) here touched

-- the marks of a time with so many places, since which the rows at these places went
abbrev pub marks_then : List Bool → List ℕ → ℕ → List Bool
marks_then here touched begun = restored touched (take begun here)

-- what the row at a place adds to the rows here that have just this tuple
abbrev pub added : List Bool → List (Row ℕ) → Cell ℕ → ℕ → Row ℕ → Option Agg
added here rows tuple k d =
    let row = slice_index_or rows k d in
    if slice_index_or here k false && cell_eq nat_eq (cell_of row.tuple) tuple
    then Some (agg_of_row row.amounts) else None

-- a row that is here is the last of its id
pub record AreLast (here : List Bool) (rows : List (Row ℕ)) : Type 0 where
  pub last : (k : ℕ) (d : Row ℕ) → k < length here → slice_index_or here k false ≡ true
      → last_of (nat_eq (slice_index_or rows k d).id) (map id_of rows) ≡ k + 1

-- the row at k is the one that is here under the id
pub record IsFound (here : List Bool) (rows : List (Row ℕ)) (id k : ℕ) : Type 0 where
  pub within : k < length here
  pub there : slice_index_or here k false ≡ true
  pub named : (d : Row ℕ) → (slice_index_or rows k d).id ≡ id
  pub only : (i : ℕ) (d : Row ℕ) → i < length here → slice_index_or here i false ≡ true
      → (slice_index_or rows i d).id ≡ id → i ≡ k

-- some rows, with the dimensions that there were when the rows were settled last
abbrev pub base_then : StoredRows → List (Row ℕ) → Base
base_then store rows = record { dims = store.dims_then; rows = map (narrowed store.dims_then) rows }

-- the marks, the store and the number of rows that are here are in step
pub record IsMarked (here : List Bool) (rows : List (Row ℕ)) (count max : ℕ) : Type 0 where
  pub last : AreLast here rows
  pub count_is : count ≡ length (picked here rows)
  pub few : count ≤ max

-- how large a table is, and may be
pub record HasShape (dims dims_then measures max : ℕ) : Type 0 where
  pub some_dims : 0 < dims
  pub few_dims : dims ≤ MAX_DIMS
  pub some_then : 0 < dims_then
  pub then_le : dims_then ≤ dims
  pub few_measures : measures ≤ MAX_MEASURES
  pub some_rows : 0 < max
  pub few_rows : max ≤ MAX_ROWS

-- the table now, and as it was when the batch began, or where none is open, as it is
pub record AreTableFields (store : StoredRows) (here : List Bool) (touched : List ℕ) (room begun count_then : ℕ)
    (is_open : Bool) (count max : ℕ) : Type 0 where
  pub shape : HasShape store.dims store.dims_then store.measures max
  pub few_places : length here < 2 ^ 32
  pub places : length store.rows ≡ length here
  pub each : All (IsRow store.dims store.measures) store.rows
  pub is_now : IsMarked here store.rows count max
  pub was_then : IsMarked (marks_then here touched begun) (take begun store.rows) count_then max
  pub begun_le : begun ≤ length here
  -- at most half of the places were empty
  pub dense : begun ≤ 2 * count_then
  pub closed : is_open ≡ false → (begun ≡ length here) × (touched ≡ [])
  pub closed_dims : is_open ≡ false → store.dims_then ≡ store.dims
  pub touched_below : All (λ k. k < begun) touched
  -- so a deletion takes no memory
  pub touched_le : length touched + count ≤ length here
  pub room_for_all : length here ≤ room

-- the places of a table, and where a batch is open the rows and dimensions at its begin
abbrev pub places_with : StoredRows → List Bool → List ℕ → ℕ → Bool → ℕ → Places
places_with store here touched begun is_open max = record {
  dims = store.dims;
  measures = store.measures;
  max = max;
  places = placed here store.rows;
  was = if is_open then Some (base_then store (picked (marks_then here touched begun) store.rows)) else None;
}
