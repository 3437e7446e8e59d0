use Rattle.cube_laws.proofs.RowTotals.{agg_none, agg_where}
use Rattle.cube_laws.proofs.parts_of_a_class.aggregate_where_rows_are_covered.Goals as goal

pub returns-clause-covered : goal.returns-clause-covered
returns-clause-covered g c = agg_where _

pub returns-clause-none : goal.returns-clause-none
returns-clause-none g c = agg_none _
