use Rattle.cube_laws.proofs.Orders.{equality_of}
use Rattle.cube_laws.proofs.Partition.{agg_parts}
use Rattle.cube_laws.proofs.parts_of_a_class.aggregate_by_parts.Goals as goal

pub returns : goal.returns
returns g c = let law = equality_of g.met.V.Ord.total g.met.V.Value.apart g.met.V.Ord.matches_eq in
    agg_parts law
