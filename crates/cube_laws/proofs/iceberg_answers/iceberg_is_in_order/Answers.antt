use Rattle.cube_laws.proofs.IcebergOrder.{iceberg-only, iceberg-rises}
use Rattle.cube_laws.proofs.iceberg_answers.iceberg_is_in_order.Goals as goal

pub returns-clause-in_order : goal.returns-clause-in_order
returns-clause-in_order g c = iceberg-rises g.met.V.Ord.total g.met.V.Value.apart

pub returns-clause-only_one : goal.returns-clause-only_one
returns-clause-only_one g c = iceberg-only g.met.V.Ord.total g.met.V.Value.apart
