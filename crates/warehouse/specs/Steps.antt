-- The steps of a change, as far as they have come.
use Rattle.std.specs.Prelude.{ℕ, ◌≡◌, Bool, true, false, ◌≤◌, List, [], ◌∷◌, drop, length, map, fold, is_some, nat_lt, slice_index_or, take}
use Rattle.std.specs.Prelude.{Option, IfSome, Some, None, if◌then◌else◌}
use Rattle.std.specs.List.{All}
use Rattle.std.specs.Ordering.{nat_cmp}
use Rattle.cube_defs.specs.Cell.{Cell}
use Rattle.cube_defs.specs.Rows.{Row}
use Rattle.cube_defs.specs.Text.{Text, text_cmp}
use Rattle.cube_defs.specs.Tree.{IsCanonical, nodes}
use Rattle.base_table.specs.Places.{Places, has_id, row_at, rows_in, values_of}
use Rattle.csv_load.specs.Batch.{Batch, Change, Delete, Insert, IsBatch, deleted, inserted}
use Rattle.qc_arena.specs.Map.{Arena, is_open}
use Rattle.value_dict.specs.TextLists.{IsDictionary, TextLists, cut, learnt_in}
use Rattle.warehouse.specs.Batch as batches
use Rattle.warehouse.specs.Batch.{Refusal, full_dim, refusal_of, rows_after, with_tuple}
use Rattle.warehouse.specs.State.{State, ids_of}
use Rattle.value_dict.specs.Decoded.{AreCodes, decoded}
use Rattle.warehouse.specs.Stored.{refusal_in}
use Rattle.warehouse.specs.declared.refused.Refused.{Refused}

-- a table but for its places
abbrev pub frame : Places → Places
frame table = record table { places = [] }

-- a table in which no batch is open
abbrev pub closed : Places → Places
closed table = record table { was = None }

-- the rows before a place
abbrev pub rows_before : Places → ℕ → List (Row ℕ)
rows_before table place = rows_in (take place table.places)

-- those from a place on, and those between two places
abbrev pub rows_from_place : Places → ℕ → List (Row ℕ)
rows_from_place table place = rows_in (drop place table.places)

abbrev pub rows_between : Places → ℕ → ℕ → List (Row ℕ)
rows_between table first place = rows_in (drop first (take place table.places))

-- the row at a place, as a list
abbrev pub rows_at : Places → ℕ → List (Row ℕ)
rows_at table place = rows_in (row_at table place ∷ [])

-- the tree is that of the rows before a place
pub record IsTreeBefore (table : Places) (tree : Arena) (place : ℕ) : Type 0 where
  pub within : place ≤ length table.places
  pub canonical : IsCanonical nat_cmp table.measures (rows_before table place) tree.now
  pub fits : length (nodes nat_cmp (rows_before table place)) ≤ tree.max

-- a batch is open on the tree, whose cells are as wide as the table's rows
pub record IsOpenFor (table : Places) (tree : Arena) : Type 0 where
  pub opened : is_open tree ≡ true
  pub width : tree.width ≡ table.dims

-- all places are as they were, and others may stand after them
abbrev pub HasPrefix : Places → Places → Type 0
HasPrefix before now = take (length before.places) now.places ≡ before.places

-- the ids of some deletions, and those of some insertions
pub record AreChangeIds (gone come : List ℕ) (changes : List (Change Text)) : Type 0 where
  pub deletions : gone ≡ deleted changes
  pub insertions : come ≡ ids_of (inserted changes)

-- an insertion of an id that one of the rows has
abbrev pub is_there : List (Row ℕ) → Change Text → Bool
is_there rows (Delete id) = false
is_there rows (Insert row) = has_id rows row.id

-- the texts of a batch can be learnt into a dictionary
pub record CanLearn (dict : TextLists) (batch : Batch) : Type 0 where
  pub lists : length dict.lists ≡ batch.dims
  pub dictionary : IsDictionary dict
  pub valid : IsBatch batch

-- a tuple's texts are learnt, and the cell has their codes
pub record IsLearnt (before now : List (List Text)) (tuple : List Text) (cell : Cell ℕ) : Type 0 where
  pub lists : now ≡ with_tuple before tuple
  pub texts : decoded now (values_of cell) ≡ tuple
  pub codes : AreCodes now (values_of cell)
  pub whole : All (λ entry. is_some entry ≡ true) cell

-- all texts are where they were, and others may stand after them
pub record AreLonger (before now : List (List Text)) : Type 0 where
  pub dims : length now ≡ length before
  pub fronts : cut now (map length before) ≡ before

-- the texts of a dimension after those of the inserted rows are learnt
abbrev pub column_after : List Text → ℕ → List (Change Text) → List Text
column_after texts dim changes = fold learnt_in texts (map (λ row. slice_index_or row.tuple dim []) (inserted changes))

-- some dimension would have too many texts
abbrev pub IsOver : ℕ → List (List Text) → Type 0
IsOver max lists = is_some (full_dim max lists) ≡ true

-- the last of the causes: what is refused where there is no other
abbrev pub last_refusal : State → List (Change Text) → Option Refusal
last_refusal s changes = if nat_lt s.schema.nodes (length (nodes text_cmp (rows_after s.rows changes)))
    then Some batches.NodesFull else None

-- why changes are refused, unless memory ran out
abbrev pub IsCause : Refused → State → List (Change Text) → Type 0
IsCause refused s changes = IfSome (refusal_in refused) (λ refusal. refusal_of s changes ≡ Some refusal)
