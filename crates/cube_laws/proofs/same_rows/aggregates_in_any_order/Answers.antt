use Rattle.cube_laws.proofs.RowTotals.{agg-reordered}
use Rattle.cube_laws.proofs.same_rows.aggregates_in_any_order.Goals as goal

pub returns : goal.returns
returns g c = λ measures rows more c' h. agg-reordered _ measures rows more c' h
