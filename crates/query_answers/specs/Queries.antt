-- What a query is answered: a filter and a sum over the rows of a state.
use Rattle.std.specs.Prelude.{All, ℕ, ◌≡◌, ◌≤◌, ◌+◌, ◌*◌, ◌^◌, Bool, Option, Some, None, IfSome, List, length, map, slice_index_or}
use Rattle.std.specs.Prelude.{if◌then◌else◌, Ok, OnOk, Result}
use Rattle.std.specs.List.{list_any}
use Rattle.std.specs.Ordering.{nat_cmp}
use Rattle.aggregates.specs.declared.kind.AggKind.{AggKind as Kinds}
use Rattle.aggregates.specs.declared.kind.AggKind.TheVariants as kinds
use Rattle.aggregates.specs.Views.{same_kind}
use Rattle.cube_defs.specs.Text.{Text, text_cmp, text_eq}
use Rattle.cube_defs.specs.Cell.{Cell}
use Rattle.cube_defs.specs.Rows.{Fraction, Row}
use Rattle.cube_defs.specs.Answers.{AggKind, Ask, Bound, ClassHit, Count, Greatest, Hit, Least, Mean, Sum, class_of, iceberg, range}
use Rattle.cube_defs.specs.Tree as trees
use Rattle.cube_defs.specs.Tree.{Tree}
use Rattle.cube_laws.specs.Recoding.{known_box}
use Rattle.cube_laws.specs.Total.{agg_at}
use Rattle.cell_core.specs.declared.fields.Field.{Field}
use Rattle.cell_core.specs.declared.fields.Field.TheVariants as fields
use Rattle.qc_schema.specs.Schema.{Layout, Measure, no_measure}
use Rattle.iceberg_query.specs.Costs.{tree_size}
use Rattle.iceberg_query.specs.Indexed.{class_of_node}
use Rattle.measure_index.specs.Index.{ranking_of}
use Rattle.measure_index.specs.Rankings.{IsIndex, Ranking}
use Rattle.query_script.specs.Commands.{IsCellField, command_in}
use Rattle.query_script.specs.Queries as asks
use Rattle.query_script.specs.Queries.{Query}
use Rattle.query_script.specs.Questions as questions
use Rattle.range_query.specs.Work.{work}
use Rattle.reply_text.specs.Replies.{bounds_reply, iceberg_text, point_reply, range_reply, stats_text}
use Rattle.value_dict.specs.Boxes.{fields_box}
use Rattle.value_dict.specs.Decoded.{has_text}
use Rattle.query_answers.specs.Lattice.{children_answer, parents_answer, rollup_answer, steps_of_children, steps_of_parents}
use Rattle.query_answers.specs.Lattice.{steps_of_rollup}
use Rattle.warehouse.specs.State.{Contents, HasTree, State, coded_rows, scale_in, with_rows}

-- the tree is that of some rows of the schema, whose texts are among those of now
pub record IsTreeOfRows (held : Contents) (width : ℕ) (tree : Tree ℕ) : Type 0 where
  pub rows : List (Row Text)
  pub kept : HasTree (with_rows held.state rows) tree
  pub wide : width ≡ length held.state.schema.dims

-- so it is, and the index is one of its classes, with each value in the unit of its measure
pub record IsSource (held : Contents) (width : ℕ) (tree : Tree ℕ) (index : List Ranking) : Type 0 where
  pub rows : IsTreeOfRows held width tree
  pub indexed : IsIndex (class_of_node tree) index
  pub unit : (kind : Kinds) → IfSome (ranking_of kind index) (λ r. r.scale ≡ scale_in held.state.schema kind)

-- the fields ask a source for a cell: there is one for each dimension, Any or a value
pub record AsksForCell (held : Contents) (width : ℕ) (tree : Tree ℕ) (index : List Ranking)
    (asked : List Field) : Type 0 where
  pub dims : length asked ≡ length held.state.schema.dims
  pub point : All IsCellField asked
  pub source : IsSource held width tree index

-- what a field of a point asks of its dimension: Any, or a value
abbrev pub entry_of_field : Field → Option Text
entry_of_field fields.Any = None
entry_of_field fields.All = None
entry_of_field (fields.One text) = Some text
entry_of_field (fields.Among texts) = None
entry_of_field (fields.Between low high) = None

abbrev pub cell_of_fields : List Field → Cell Text
cell_of_fields asked = map entry_of_field asked

-- the answer to a point
abbrev pub point_answer : State → ℕ → Cell Text → List ℕ
point_answer state line cell
    = point_reply state.schema line cell (agg_at text_eq (length state.schema.measures) state.rows cell)

-- the answer to `bounds`
abbrev pub bounds_answer : State → ℕ → Cell Text → List ℕ
bounds_answer state line cell
    = bounds_reply state.schema line (class_of text_cmp (length state.schema.measures) state.rows cell)

-- the cells that cover rows, of the box that fields ask for
abbrev pub hits_of : State → List Field → List (Hit Text)
hits_of state asked = range text_cmp (length state.schema.measures) state.rows (fields_box state.texts 0 asked)

-- how much is looked at for them
abbrev pub work_of : State → List Field → ℕ
work_of state asked = work text_cmp state.rows (known_box (has_text state.texts) 0 (fields_box state.texts 0 asked))

-- the answer to `range`
abbrev pub range_answer : State → ℕ → List Field → List ℕ
range_answer state line asked = range_reply state.schema line (hits_of state asked)

-- the scale of the measure of a kind; a count has none
abbrev pub scale_of : List Measure → AggKind → ℕ
scale_of measures Count = 0
scale_of measures (Sum m) = (slice_index_or measures m no_measure).scale
scale_of measures (Least m) = (slice_index_or measures m no_measure).scale
scale_of measures (Greatest m) = (slice_index_or measures m no_measure).scale
scale_of measures (Mean m) = (slice_index_or measures m no_measure).scale

-- what is asked of a class, in the unit of the measure
abbrev pub ask_of : List Measure → AggKind → Bound → Fraction → Ask
ask_of measures kind bound value = record { kind = kind; scale = scale_of measures kind; bound = bound; value = value }

-- the classes that pass
abbrev pub classes_of : State → AggKind → Bound → Fraction → List (ClassHit Text)
classes_of state kind bound value
    = iceberg text_cmp (length state.schema.measures) state.rows (ask_of state.schema.measures kind bound value)

-- the schema has an index of the kind
abbrev pub names_kind : Layout → Kinds → Bool
names_kind schema kind = list_any (same_kind kind) schema.indexes

-- how many steps a class of an answer may take
abbrev pub steps_of_class : Layout → ℕ
steps_of_class schema = 32 * (length schema.dims + 1) ^ 2 * 2 ^ length schema.dims

-- and a walk over the tree, which is that of the rows by codes
abbrev pub steps_of_walk : State → ℕ
steps_of_walk state = 2 * tree_size nat_cmp (coded_rows state) + 1

-- the most steps of `iceberg`: those of each class of the answer, and a walk if no index has the kind
abbrev pub steps_of_iceberg : State → Bool → AggKind → Bound → Fraction → ℕ
steps_of_iceberg state has_index kind bound value = length (classes_of state kind bound value) * steps_of_class state.schema
    + (if has_index then 0 else steps_of_walk state)

-- the answer to `iceberg`
abbrev pub iceberg_answer : State → ℕ → AggKind → Bound → Fraction → List ℕ
iceberg_answer state line kind bound value = iceberg_text line state.schema.measures (classes_of state kind bound value)

-- the reply to `stats`: what is counted of the rows and of their canonical tree
abbrev pub stats_answer : State → ℕ → List ℕ
stats_answer state line =
    stats_text line (length state.rows) (length (trees.classes text_cmp state.rows))
    (length (trees.nodes text_cmp state.rows)) (trees.tree_edges text_cmp state.rows)
    (trees.links text_cmp state.rows)

-- the answer to a query
abbrev pub query_reply : State → ℕ → Query → List ℕ
query_reply state line (asks.Point asked) = point_answer state line (cell_of_fields asked)
query_reply state line (asks.Range asked) = range_answer state line asked
query_reply state line (asks.Bounds asked) = bounds_answer state line (cell_of_fields asked)
query_reply state line (asks.Iceberg kind bound value) = iceberg_answer state line kind bound value
query_reply state line asks.Stats = stats_answer state line
query_reply state line (asks.Parents asked) = parents_answer state line (cell_of_fields asked)
query_reply state line (asks.Children asked) = children_answer state line (cell_of_fields asked)
query_reply state line (asks.Rollup kind bound value asked)
    = rollup_answer state line (ask_of state.schema.measures kind bound value) (cell_of_fields asked)

-- an aggregate as a schema names it
abbrev pub named_kind : AggKind → Kinds
named_kind Count = kinds.Count
named_kind (Sum m) = kinds.Sum m
named_kind (Least m) = kinds.Least m
named_kind (Greatest m) = kinds.Greatest m
named_kind (Mean m) = kinds.Mean m

-- the most steps that the answer to a query takes, by the kinds that have an index
abbrev pub query_cost : State → (Kinds → Bool) → Query → ℕ
query_cost state has_index (asks.Point asked) = 2 * length state.schema.dims + 3
query_cost state has_index (asks.Range asked) = 3 * (1 + work_of state asked)
query_cost state has_index (asks.Bounds asked) = 7 * (length state.schema.dims + 1) * 2 ^ length state.schema.dims
query_cost state has_index (asks.Iceberg kind bound value)
    = steps_of_iceberg state (has_index (named_kind kind)) kind bound value
query_cost state has_index asks.Stats = 0
query_cost state has_index (asks.Parents asked) = steps_of_parents state (cell_of_fields asked)
query_cost state has_index (asks.Children asked) = steps_of_children state (cell_of_fields asked)
query_cost state has_index (asks.Rollup kind bound value asked)
    = steps_of_rollup state (ask_of state.schema.measures kind bound value) (cell_of_fields asked)

-- a line that asks a query of the present rows is answered, from one count of steps to another: the reply is the
-- query's where one was made
pub record IsAnswered {T E : Type 0} (state : State) (line : List ℕ) (number : ℕ) (done : Result T E) (reply : List ℕ)
    (from to : ℕ) : Type 0 where
  pub query : Query
  pub command : command_in state.schema line ≡ Ok (questions.Ask query)
  pub answer : OnOk done (reply ≡ query_reply state number query)
  pub steps : to ≤ from + query_cost state (names_kind state.schema) query
