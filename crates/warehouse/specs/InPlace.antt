-- What a batch leaves of the tree as it was, and what it may cost.
use Rattle.std.specs.Prelude.{ℕ, ◌+◌, ◌*◌, ◌^◌, ◌≡◌, ◌≤◌, length, not, true, false, nat_eq, List, [], ◌∷◌, ◌++◌, filter, map, Option}
use Rattle.std.specs.Prelude.{Bool, None, Some, Ok, is_some}
use Rattle.std.specs.List.{All}
use Rattle.std.specs.FinMap as finmap
use Rattle.std.specs.Ordering.{nat_cmp, eq_by_cmp}
use Rattle.base_table.specs.Places.{Places, row_with_id, rows_of, without_id}
use Rattle.batch_delete.specs.Rests.{Deletion, rows_before}
use Rattle.csv_load.specs.Batch.{Change, deleted, inserted}
use Rattle.csv_load.specs.Files.{batch_in}
use Rattle.cube_defs.specs.Cell.{Cell, cell_of, leq}
use Rattle.cube_defs.specs.Rows.{Row, is_node}
use Rattle.cube_defs.specs.Text.{Text}
use Rattle.cube_defs.specs.Tree.{Node, Tree, affected_size, cell_at}
use Rattle.cube_laws.specs.Recoding.{coded_row}
use Rattle.qc_arena.specs.Map.{Arena, ImageMap, is_touched}
use Rattle.qc_schema.specs.Schema.{Layout}
use Rattle.value_dict.specs.Decoded.{place_in}
use Rattle.warehouse.specs.Batch.{is_among, texts_after}
use Rattle.warehouse.specs.State.{Contents, State}

module _ {A : Type 0} where
  -- the rows with one of these ids, and the others
  abbrev pub gone : List ℕ → List (Row A) → List (Row A)
  gone ids rows = filter (λ row. is_among row.id ids) rows

  abbrev pub kept : List ℕ → List (Row A) → List (Row A)
  kept ids rows = filter (λ row. not (is_among row.id ids)) rows

-- each node keeps its number
abbrev pub KeepsNumbers : Tree ℕ → Tree ℕ → Type 0
KeepsNumbers before now = (k : ℕ) (c : Cell ℕ) → cell_at before k ≡ Some c → cell_at now k ≡ Some c

-- each node that is one of these rows too keeps its number
abbrev pub KeepsNodes : List (Row ℕ) → Tree ℕ → Tree ℕ → Type 0
KeepsNodes rows before now = (k : ℕ) (c : Cell ℕ) → cell_at before k ≡ Some c
    → is_node (eq_by_cmp nat_cmp) rows c ≡ true → cell_at now k ≡ Some c

-- each node that generalizes none of these rows' tuples keeps its whole record
abbrev pub KeepsOtherRecords : List (Row ℕ) → Tree ℕ → Tree ℕ → Type 0
KeepsOtherRecords rows before now =
    (k : ℕ) (n : Node ℕ ℕ) → finmap.get before k ≡ Some n
    → All (λ row. leq nat_eq n.cell (cell_of row.tuple) ≡ false) rows → finmap.get now k ≡ Some n

-- the node at a number, if there is one, generalizes none of these rows' tuples
abbrev pub IsApart : List (Row ℕ) → Tree ℕ → ℕ → Type 0
IsApart rows tree k = (c : Cell ℕ) → cell_at tree k ≡ Some c → All (λ row. leq nat_eq c (cell_of row.tuple) ≡ false) rows

-- a number whose node, before and after, generalizes none of these rows' tuples isn't touched
abbrev pub TouchesNoOthers : List (Row ℕ) → Tree ℕ → Tree ℕ → (ℕ → Bool) → Type 0
TouchesNoOthers rows before now touched =
    (k : ℕ) → IsApart rows before k → IsApart rows now k → touched k ≡ false

-- between two states of an arena a number whose node in a tree generalizes none of these rows' tuples isn't touched
abbrev pub TouchesOnly : List (Row ℕ) → Tree ℕ → Arena → Arena → Type 0
TouchesOnly rows tree before now =
    (k : ℕ) → IsApart rows tree k → is_touched before k ≡ false → is_touched now k ≡ false

-- whether a number has an image
abbrev pub has_image : ImageMap → ℕ → Bool
has_image images k = is_some (finmap.get images k)

-- the most steps for one row that comes or goes, by the nodes that generalize its tuple in the rows before and after
abbrev pub cost_of_row : ℕ → List (Row ℕ) → List (Row ℕ) → Row ℕ → ℕ
cost_of_row dims before after row = 256 * (dims + 1) ^ 2 * (affected_size nat_cmp before after row.tuple + 1)

-- the most steps for rows that come one after another to others
abbrev pub cost_of_insertions : ℕ → List (Row ℕ) → List (Row ℕ) → ℕ
cost_of_insertions dims before [] = 0
cost_of_insertions dims before (row ∷ came)
    = cost_of_row dims before (before ++ row ∷ []) row + cost_of_insertions dims (before ++ row ∷ []) came

-- the most steps for a row that goes, if there is one
abbrev pub cost_without : ℕ → List (Row ℕ) → Option (Row ℕ) → ℕ
cost_without dims before None = 0
cost_without dims before (Some row) = cost_of_row dims before (without_id before row.id) row

-- the most steps for rows that go one after another, by their ids
abbrev pub cost_of_deletions : ℕ → List (Row ℕ) → List ℕ → ℕ
cost_of_deletions dims before [] = 0
cost_of_deletions dims before (id ∷ ids)
    = cost_without dims before (row_with_id before id) + cost_of_deletions dims (without_id before id) ids

-- rows with the place of each text in place of the text
abbrev pub with_codes : List (List Text) → List (Row Text) → List (Row ℕ)
with_codes lists rows = map (coded_row (place_in lists)) rows

-- the most steps for a batch: for its deletions, and then for its insertions
abbrev pub cost_of_batch : ℕ → List (List Text) → List (Row Text) → List (Change Text) → ℕ
cost_of_batch dims lists rows changes =
    cost_of_deletions dims (with_codes lists rows) (deleted changes) + cost_of_insertions dims
    (with_codes lists (kept (deleted changes) rows)) (with_codes lists (inserted changes))

-- the most steps for the changes that a state takes, whether or not they stay
abbrev pub cost_in : State → List (Change Text) → ℕ
cost_in s changes = cost_of_batch (length s.schema.dims) (texts_after s.texts changes) s.rows changes

-- the file is a batch, and this holds of its changes
abbrev pub OfBatch : Layout → List ℕ → (List (Change Text) → Type 0) → Type 0
OfBatch schema bytes Holds = (changes : List (Change Text)) → batch_in schema bytes ≡ Ok changes → Holds changes

-- a file that is taken as a batch: each node of the rows that are left after its deletions keeps its number
abbrev pub LeavesNumbers : Contents → List ℕ → Contents → Type 0
LeavesNumbers before bytes now =
    OfBatch before.state.schema bytes
    (λ changes. KeepsNodes (with_codes now.state.texts (kept (deleted changes) before.state.rows))
    before.tree now.tree)

-- each node that generalizes the tuple of no row that goes or comes keeps its whole record
abbrev pub LeavesOtherRecords : Contents → List ℕ → Contents → Type 0
LeavesOtherRecords before bytes now =
    OfBatch before.state.schema bytes
    (λ changes. KeepsOtherRecords
    (with_codes now.state.texts (gone (deleted changes) before.state.rows ++ inserted changes))
    before.tree now.tree)

-- each number whose node, before and after, generalizes the tuple of no row that goes or comes has no before-image
abbrev pub HasNoOtherImages : Contents → List ℕ → Contents → Type 0
HasNoOtherImages before bytes now =
    OfBatch before.state.schema bytes
    (λ changes. TouchesNoOthers
    (with_codes now.state.texts (gone (deleted changes) before.state.rows ++ inserted changes))
    before.tree now.tree (has_image now.images))

-- and no more steps are taken than a batch may cost, from one count of them to another
abbrev pub IsWithinCost : State → List ℕ → ℕ → ℕ → Type 0
IsWithinCost before bytes from to = OfBatch before.schema bytes (λ changes. to ≤ from + cost_in before changes)

-- the row with an id goes out of a table
pub record IsDeletion (table : Places) (id : ℕ) (d : Deletion) : Type 0 where
  pub rows : rows_of table ≡ rows_before d
  pub named : d.r.id ≡ id
  pub measures : d.measures ≡ table.measures
