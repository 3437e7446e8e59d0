-- What may be asked of the rows of a pin, in the words of the definitions.
use Rattle.std.specs.Prelude.{List}
use Rattle.cube_defs.specs.Rows.{Fraction}
use Rattle.cube_defs.specs.Answers.{AggKind, Bound}
use Rattle.cell_core.specs.declared.fields.Field as asked
use Rattle.aggregates.specs.Views.{fraction_in, kind_in}
use Rattle.iceberg_query.specs.Asked.{bound_in}
use Rattle.query_script.specs.declared.query.Query as code
use Rattle.query_script.specs.declared.query.Query.TheVariants as queries

-- The cell, the box or the class of the cell of some fields; the classes whose aggregate is bounded by a value; what is
-- counted; the
-- parents or the children of the class of a cell, or how far up it can be rolled.
pub data Query : Type 0 where
  Point : List asked.Field → Query
  Range : List asked.Field → Query
  Bounds : List asked.Field → Query
  Iceberg : AggKind → Bound → Fraction → Query
  Stats : Query
  Parents : List asked.Field → Query
  Children : List asked.Field → Query
  Rollup : AggKind → Bound → Fraction → List asked.Field → Query

abbrev pub query_in : code.Query → Query
query_in (queries.Point fields) = Point fields
query_in (queries.Range fields) = Range fields
query_in (queries.Bounds fields) = Bounds fields
query_in (queries.Iceberg kind bound value) = Iceberg (kind_in kind) (bound_in bound) (fraction_in value)
query_in queries.Stats = Stats
query_in (queries.Parents fields) = Parents fields
query_in (queries.Children fields) = Children fields
query_in (queries.Rollup kind bound value fields) = Rollup (kind_in kind) (bound_in bound) (fraction_in value) fields
