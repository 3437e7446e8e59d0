-- What an open batch begins with, what the changes of a file make of it, and what stays as it was.
use Rattle.std.specs.Prelude.{ℕ, ◌≡◌, ◌≤◌, ◌+◌, ◌++◌, ◌∷◌, [], Bool, List, None, Some, IfSome, false, true, length, is_some, if◌then◌else◌}
use Rattle.std.specs.FinMap as finmap
use Rattle.std.specs.FinSet as set
use Rattle.std.specs.Ordering.{nat_cmp}
use Rattle.base_table.specs.Places.{IsTable, Places, base_of, row_with_id, rows_of, without_id}
use Rattle.csv_load.specs.Batch.{Batch, Change, IsBatch, deleted, inserted}
use Rattle.cube_defs.specs.Rows.{Row}
use Rattle.cube_defs.specs.Text.{Text}
use Rattle.cube_defs.specs.Tree.{IsCanonical, Tree, nodes}
use Rattle.measure_index.specs.Rankings.{Ranking}
use Rattle.qc_arena.specs.Map as arena
use Rattle.qc_arena.specs.Map.{Arena, is_open, is_touched, overlaid, shape_of, was_at}
use Rattle.qc_schema.specs.Schema.{Layout}
use Rattle.value_dict.specs.TextLists.{IsDictionary, TextLists, cut}
use Rattle.value_dict.specs.Decoded.{RowsAreCodes}
use Rattle.warehouse.specs.Batch.{after, first_twice, refusal_of}
use Rattle.warehouse.specs.InPlace.{KeepsOtherRecords, KeepsNodes, KeepsNumbers, TouchesNoOthers, TouchesOnly, cost_in}
use Rattle.warehouse.specs.InPlace.{cost_of_deletions, cost_without, gone, kept, with_codes}
use Rattle.warehouse.specs.State.{Contents, IsIndexed, State}
use Rattle.warehouse.specs.Steps.{AreLonger, HasPrefix, IsTreeBefore, closed, frame, last_refusal, rows_before}
use Rattle.warehouse.specs.Stored.{IsStored, IsTreeOfTable, decoded_rows, state_of}
use Rattle.warehouse.specs.declared.cube.Cube.{Cube}

-- the state that a schema and a cube stand for
abbrev pub state_in : Layout → Cube → State
state_in schema cube = state_of schema cube.dict cube.table

-- the parts of a warehouse fit each other
pub record AreParts (schema : Layout) (cube : Cube) (index : List Ranking) : Type 0 where
  pub stored : IsStored schema cube.dict cube.table
  pub kept : IsTreeOfTable schema cube.table cube.tree
  pub indexed : IsIndexed schema cube.tree.now index

-- what the parts stand for
abbrev pub contents_of : Layout → Cube → List Ranking → Contents
contents_of schema cube index = record {
  state = state_in schema cube;
  tree = cube.tree.now;
  index = index;
  images
      = cube.tree.last;
}

-- a cube on which a batch was opened, and nothing is changed yet
abbrev pub begun : Cube → Cube
begun cube = record cube {
  table = record cube.table { was = Some (base_of cube.table) };
  tree = record cube.tree { was = Some (shape_of cube.tree); touched = set.empty; last = finmap.empty };
}

-- a batch is open on rows and tree, and the tree is that of the rows
pub record IsBegun (schema : Layout) (cube : Cube) : Type 0 where
  pub stored : IsStored schema cube.dict (closed cube.table)
  pub rows_open : is_some cube.table.was ≡ true
  pub tree_open : is_open cube.tree ≡ true
  pub untouched : cube.tree.touched ≡ set.empty
  pub width : cube.tree.width ≡ length schema.dims
  pub most_nodes : cube.tree.max ≡ schema.nodes
  pub canonical : IsCanonical nat_cmp cube.table.measures (rows_of cube.table) cube.tree.now
  pub few_nodes : length (nodes nat_cmp (rows_of cube.table)) ≤ cube.tree.max

-- changes of rows of the schema, of which none is repeated
pub record AreFit (schema : Layout) (batch : Batch) : Type 0 where
  pub dims : batch.dims ≡ length schema.dims
  pub measures : batch.measures ≡ length schema.measures
  pub once : first_twice batch.changes ≡ None
  pub valid : IsBatch batch

-- an open batch was kept
pub record IsCommitted (cube cube' : Cube) : Type 0 where
  pub texts : cube'.dict ≡ cube.dict
  pub rows : rows_of cube'.table ≡ rows_of cube.table
  pub frame : frame cube'.table ≡ frame (closed cube.table)
  pub valid : IsTable cube'.table
  pub of_tree : cube'.tree ≡ record cube.tree { was = None; touched = set.empty; last = cube'.tree.last }
  pub images : IfSome cube.tree.was (λ shape. overlaid cube'.tree.last cube'.tree.now ≡ shape.tree)
  pub last : (q : ℕ)
      → finmap.get cube'.tree.last q ≡ (if is_touched cube.tree q then Some (was_at cube.tree q) else None)

-- an open batch was taken back, and each dimension was cut to so many texts
pub record IsRolledBack (lens : List ℕ) (cube cube' : Cube) : Type 0 where
  pub rows : Some (base_of cube'.table) ≡ cube.table.was
  pub frame : frame cube'.table ≡ record (frame (closed cube.table)) { dims = cube'.table.dims }
  pub valid : IsTable cube'.table
  pub texts : cube'.dict.lists ≡ cut cube.dict.lists lens
  pub most_texts : cube'.dict.max ≡ cube.dict.max
  pub dictionary : IsDictionary cube'.dict
  pub shape : Some (shape_of cube'.tree) ≡ cube.tree.was
  pub closed : is_open cube'.tree ≡ false
  pub max : cube'.tree.max ≡ cube.tree.max
  pub images : cube'.tree.last ≡ cube.tree.last

-- texts were only added, and what a batch is taken back by is as it was
pub record LeavesFrames (cube cube' : Cube) : Type 0 where
  pub longer : AreLonger cube.dict.lists cube'.dict.lists
  pub most_texts : cube'.dict.max ≡ cube.dict.max
  pub dictionary : IsDictionary cube'.dict
  pub of_table : frame cube'.table ≡ frame cube.table
  pub of_tree : arena.frame cube'.tree ≡ arena.frame cube.tree

-- the row of an id is gone, and the tree is that of the rows that are left
pub record IsTakenOut (id : ℕ) (row : Row ℕ) (table table' : Places) (tree tree' : Arena) (from to : ℕ) : Type 0 where
  pub rows : rows_of table' ≡ without_id (rows_of table) id
  pub fewer : length (nodes nat_cmp (rows_of table')) ≤ length (nodes nat_cmp (rows_of table))
  pub canonical : IsCanonical nat_cmp table.measures (rows_of table') tree'.now
  pub numbers : KeepsNodes (rows_of table') tree.now tree'.now
  pub none_new : KeepsNumbers tree'.now tree.now
  pub apart : KeepsOtherRecords (row ∷ []) tree.now tree'.now
  pub touches : TouchesOnly (row ∷ []) tree.now tree tree'
  pub steps : to ≤ from + cost_without table.dims (rows_of table) (row_with_id (rows_of table) id)

-- the rows of these ids are gone, and the tree is that of the rows that are left
pub record AreDeleted (ids : List ℕ) (table table' : Places) (tree tree' : Arena)
    (from to : ℕ) : Type 0 where
  pub rows : rows_of table' ≡ kept ids (rows_of table)
  pub canonical : IsCanonical nat_cmp table.measures (rows_of table') tree'.now
  pub fits : length (nodes nat_cmp (rows_of table')) ≤ tree.max
  pub numbers : KeepsNodes (rows_of table') tree.now tree'.now
  pub apart : KeepsOtherRecords (gone ids (rows_of table)) tree.now tree'.now
  pub touches : TouchesOnly (gone ids (rows_of table)) tree.now tree tree'
  pub steps : to ≤ from + cost_of_deletions table.dims (rows_of table) ids

-- the rows and texts are changed, and the tree is that of the rows before a place, which are those that are left
pub record RowsAreMade (schema : Layout) (changes : List (Change Text)) (first : ℕ) (cube cube' : Cube)
    (from to : ℕ) : Type 0 where
  pub last : refusal_of (state_in schema cube) changes ≡ last_refusal (state_in schema cube) changes
  pub made : state_in schema cube' ≡ after (state_in schema cube) changes
  pub known : RowsAreCodes cube'.dict.lists (rows_of cube'.table)
  pub left : rows_before cube'.table first ≡ kept (deleted changes) (rows_of cube.table)
  pub before : IsTreeBefore cube'.table cube'.tree first
  pub numbers : KeepsNodes (kept (deleted changes) (rows_of cube.table)) cube.tree.now cube'.tree.now
  pub apart : KeepsOtherRecords (gone (deleted changes) (rows_of cube.table)) cube.tree.now cube'.tree.now
  pub touches : TouchesOnly (gone (deleted changes) (rows_of cube.table)) cube.tree.now cube.tree cube'.tree
  pub steps : to ≤ from + cost_of_deletions cube.table.dims (rows_of cube.table) (deleted changes)

-- the changes are made, and the tree is that of the rows after them
pub record AreMade (schema : Layout) (changes : List (Change Text)) (cube cube' : Cube) : Type 0 where
  pub none : refusal_of (state_in schema cube) changes ≡ None
  pub made : state_in schema cube' ≡ after (state_in schema cube) changes
  pub canonical : IsCanonical nat_cmp cube'.table.measures (rows_of cube'.table) cube'.tree.now
  pub fits : length (nodes nat_cmp (rows_of cube'.table)) ≤ schema.nodes
  pub known : RowsAreCodes cube'.dict.lists (rows_of cube'.table)

-- what the changes of a state leave of the tree where they are made in place, what they touch, and what they cost
pub record IsInPlace (s : State) (changes : List (Change Text)) (lists : List (List Text)) (tree tree' : Tree ℕ)
    (touched : ℕ → Bool) (from to : ℕ) : Type 0 where
  pub numbers : KeepsNodes (with_codes lists (kept (deleted changes) s.rows)) tree tree'
  pub apart : KeepsOtherRecords (with_codes lists (gone (deleted changes) s.rows ++ inserted changes)) tree tree'
  pub touches : TouchesNoOthers (with_codes lists (gone (deleted changes) s.rows ++ inserted changes)) tree tree' touched
  pub steps : to ≤ from + cost_in s changes

-- rows, texts and tree are as they were, and there are no before-images
pub record AreAsBefore (schema : Layout) (cube cube' : Cube) : Type 0 where
  pub stored : IsStored schema cube'.dict cube'.table
  pub kept : IsTreeOfTable schema cube'.table cube'.tree
  pub same_state : state_in schema cube' ≡ state_in schema cube
  pub same_tree : cube'.tree.now ≡ cube.tree.now
  pub images : cube'.tree.last ≡ finmap.empty

-- a dictionary and a table, on which a batch is open, can take the rows of a file
pub record CanInsert (dict : TextLists) (table : Places) (batch : Batch) : Type 0 where
  pub lists : length dict.lists ≡ batch.dims
  pub dims : table.dims ≡ batch.dims
  pub measures : table.measures ≡ batch.measures
  pub is_open : is_some table.was ≡ true
  pub dictionary : IsDictionary dict
  pub known : RowsAreCodes dict.lists (rows_of table)
  pub valid : IsBatch batch

-- rows came after the others, and the texts are these
pub record AreInserted (texts : List (List Text)) (came : List (Row Text)) (dict dict' : TextLists)
    (table table' : Places) : Type 0 where
  pub rows : decoded_rows dict'.lists table' ≡ decoded_rows dict.lists table ++ came
  pub lists : dict'.lists ≡ texts
  pub known : RowsAreCodes dict'.lists (rows_of table')

-- texts and rows were only added
pub record OnlyAdds (dict dict' : TextLists) (table table' : Places) : Type 0 where
  pub longer : AreLonger dict.lists dict'.lists
  pub most_texts : dict'.max ≡ dict.max
  pub dictionary : IsDictionary dict'
  pub front : HasPrefix table table'
  pub frame : frame table' ≡ frame table
