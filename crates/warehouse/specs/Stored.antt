-- How a warehouse keeps its state: rows of codes beside a dictionary, and the tree of the rows.
use Rattle.std.specs.Prelude.{ℕ, ◌≡◌, ◌≤◌, List, false, length, map, Option, Some, None}
use Rattle.std.specs.Ordering.{nat_cmp}
use Rattle.std.specs.FinMap as finmap
use Rattle.std.specs.List.{All}
use Rattle.cube_defs.specs.Text.{Text}
use Rattle.cube_defs.specs.Rows.{Row}
use Rattle.cube_defs.specs.Tree.{IsCanonical, Tree, nodes}
use Rattle.base_table.specs.Places.{IsTable, Places, rows_of}
use Rattle.csv_load.specs.Batch.{IsValue}
use Rattle.csv_load.specs.Faults as files
use Rattle.qc_arena.specs.Map.{Arena, is_open}
use Rattle.qc_schema.specs.Schema.{Layout, IsLayout}
use Rattle.tree_search.specs.Found.{IsTreeOf}
use Rattle.value_dict.specs.TextLists.{IsDictionary, TextLists}
use Rattle.value_dict.specs.Decoded.{RowsAreCodes, decoded_row}
use Rattle.warehouse.specs.Batch as batches
use Rattle.warehouse.specs.State.{State}
use Rattle.warehouse.specs.declared.refused.Applied.{Applied}
use Rattle.warehouse.specs.declared.refused.Refused.{Refused}
use Rattle.warehouse.specs.declared.refused.Refused.TheVariants as refusals

-- the rows of a table, with the texts of their codes
abbrev pub decoded_rows : List (List Text) → Places → List (Row Text)
decoded_rows lists table = map (decoded_row lists) (rows_of table)

-- the state that a schema, a dictionary and a table stand for
abbrev pub state_of : Layout → TextLists → Places → State
state_of schema dict table = record { schema = schema; rows = decoded_rows dict.lists table; texts = dict.lists }

-- what is true of the three in every warehouse
pub record IsStored (schema : Layout) (dict : TextLists) (table : Places) : Type 0 where
  pub layout : IsLayout schema
  pub lists : length dict.lists ≡ length schema.dims
  pub most_texts : dict.max ≡ schema.values
  pub dims : table.dims ≡ length schema.dims
  pub measures : table.measures ≡ length schema.measures
  pub most_rows : table.max ≡ schema.rows
  pub closed : table.was ≡ None
  pub values : All (All IsValue) dict.lists
  pub known : RowsAreCodes dict.lists (rows_of table)
  pub dictionary : IsDictionary dict
  pub are_rows : IsTable table

-- the tree that is kept is that of the rows
pub record IsTreeOfTable (schema : Layout) (table : Places) (tree : Arena) : Type 0 where
  pub closed : is_open tree ≡ false
  pub width : tree.width ≡ length schema.dims
  pub max : tree.max ≡ schema.nodes
  pub few : length (nodes nat_cmp (rows_of table)) ≤ schema.nodes
  pub from : IsTreeOf (length schema.dims) tree.now (record { measures = length schema.measures; rows = rows_of table })

-- the tree is that of the rows, made in a batch that is open and began without nodes
pub record IsNewTree (schema : Layout) (table : Places) (tree : Arena) : Type 0 where
  pub was : tree.was ≡ Some (record { width = length schema.dims; tree = finmap.empty })
  pub width : tree.width ≡ length schema.dims
  pub max : tree.max ≡ schema.nodes
  pub few : length (nodes nat_cmp (rows_of table)) ≤ schema.nodes
  pub canonical : IsCanonical nat_cmp table.measures (rows_of table) tree.now

-- the tree is that of some rows that fit the schema
abbrev pub IsTreeOfSome : Layout → Tree ℕ → Type 0
IsTreeOfSome schema tree = (rows : List (Row ℕ))
    × IsTreeOf (length schema.dims) tree (record { measures = length schema.measures; rows = rows })

-- what a file did that was taken, with the state after it
abbrev pub applied_in : State → Applied → batches.Applied
applied_in s applied = record { records = applied.records; classes = applied.classes; state = s }

-- what a refusal of the code says, but for want of memory
abbrev pub refusal_in : Refused → Option batches.Refusal
refusal_in refusals.NotEmpty = Some batches.NotEmpty
refusal_in refusals.Header = Some (batches.File files.Header)
refusal_in (refusals.Fields k) = Some (batches.File (files.Fields k))
refusal_in (refusals.Utf8 k) = Some (batches.File (files.Utf8 k))
refusal_in (refusals.Op k) = Some (batches.File (files.Op k))
refusal_in (refusals.Id k) = Some (batches.File (files.Id k))
refusal_in (refusals.Amount k) = Some (batches.File (files.Amount k))
refusal_in (refusals.Value k) = Some (batches.File (files.Value k))
refusal_in (refusals.Twice k) = Some (batches.Twice k)
refusal_in (refusals.Missing k) = Some (batches.Missing k)
refusal_in (refusals.Present k) = Some (batches.Present k)
refusal_in refusals.RowsFull = Some batches.RowsFull
refusal_in (refusals.ValuesFull dim) = Some (batches.ValuesFull dim)
refusal_in refusals.NodesFull = Some batches.NodesFull
refusal_in refusals.Memory = None
