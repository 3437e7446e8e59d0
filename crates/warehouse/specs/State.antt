-- The state of a warehouse.
use Rattle.std.specs.Prelude.{ℕ, ◌≡◌, ◌≤◌, nat_eq, List, [], length, map, replicate}
use Rattle.std.specs.List.{All, IsDistinct}
use Rattle.std.specs.Str.{bytes_eq}
use Rattle.cube_defs.specs.Text.{Text, text_cmp}
use Rattle.cube_defs.specs.Rows.{Row}
use Rattle.cube_defs.specs.Tree.{Tree, nodes}
use Rattle.aggregates.specs.declared.kind.AggKind.{AggKind}
use Rattle.cube_laws.specs.Recoding.{coded_row, RowsAreKnown}
use Rattle.csv_load.specs.Batch.{IsLoaded, IsValue}
use Rattle.iceberg_query.specs.Indexed.{class_of_node}
use Rattle.measure_index.specs.Index.{scale_of, units}
use Rattle.measure_index.specs.Rankings.{IsIndex, Ranking}
use Rattle.qc_arena.specs.Map.{ImageMap}
use Rattle.qc_schema.specs.Schema.{Layout, IsLayout}
use Rattle.tree_search.specs.Found.{TreeRows, IsTreeOf}
use Rattle.value_dict.specs.Decoded.{has_text, place_in}

-- a schema, the rows in the order in which they were accepted, and for each dimension the texts that were ever
-- accepted, in that order
pub record State : Type 0 where
  pub schema : Layout
  pub rows : List (Row Text)
  pub texts : List (List Text)

-- no rows, and no texts in any dimension
abbrev pub empty : Layout → State
empty schema = record { schema = schema; rows = []; texts = replicate (length schema.dims) [] }

-- the ids of the rows, in their order
abbrev pub ids_of : {A : Type 0} → List (Row A) → List ℕ
ids_of rows = map (λ row. row.id) rows

-- the rows with the place of each text in place of the text
abbrev pub coded_rows : State → List (Row ℕ)
coded_rows s = map (coded_row (place_in s.texts)) s.rows

-- a schema, rows and texts that fit together: what is true of every state, but for the number of its nodes
pub record IsConsistent (s : State) : Type 0 where
  pub layout : IsLayout s.schema
  pub rows : All (IsLoaded (length s.schema.dims) (length s.schema.measures)) s.rows
  pub ids : IsDistinct nat_eq (ids_of s.rows)
  pub few_rows : length s.rows ≤ s.schema.rows
  pub lists : length s.texts ≡ length s.schema.dims
  pub values : All (All IsValue) s.texts
  pub distinct : All (IsDistinct bytes_eq) s.texts
  pub few_texts : All (λ texts. length texts ≤ s.schema.values) s.texts
  pub known : RowsAreKnown (has_text s.texts) s.rows

-- what is true of every state
pub record IsState (s : State) : Type 0 where
  pub consistent : IsConsistent s
  pub few_nodes : length (nodes text_cmp s.rows) ≤ s.schema.nodes

-- the scale of the measure of a kind; a count has none
abbrev pub scale_in : Layout → AggKind → ℕ
scale_in schema kind = scale_of (map (λ m. m.scale) schema.measures) kind

-- the index has the kinds that the schema names, each in the unit of its measure, and is that of the tree's classes
pub record IsIndexed (schema : Layout) (tree : Tree ℕ) (index : List Ranking) : Type 0 where
  pub classes : IsIndex (class_of_node tree) index
  pub kinds : units index ≡ map (λ kind. (kind, scale_in schema kind)) schema.indexes

-- a state, the tree and the index that are kept of its rows, and what the nodes were that the last change
-- touched, until it is asked for
pub record Contents : Type 0 where
  pub state : State
  pub tree : Tree ℕ
  pub index : List Ranking
  pub images : ImageMap

-- the rows with codes for their texts
abbrev pub source_of : State → TreeRows
source_of s = record { measures = length s.schema.measures; rows = coded_rows s }

-- the state with other rows
abbrev pub with_rows : State → List (Row Text) → State
with_rows s rows = record s { rows = rows }

-- the tree is the canonical tree of a state's rows
pub record HasTree (s : State) (tree : Tree ℕ) : Type 0 where
  pub state : IsState s
  pub canonical : IsTreeOf (length s.schema.dims) tree (source_of s)

-- what is true of every warehouse: the tree is the canonical tree of the rows, and the index that of its classes
pub record AreContents (held : Contents) : Type 0 where
  pub state : IsState held.state
  pub tree : IsTreeOf (length held.state.schema.dims) held.tree (source_of held.state)
  pub index : IsIndexed held.state.schema held.tree held.index
