use Rattle.cube_laws.proofs.Orders.{equality_of}
use Rattle.cube_laws.proofs.Partition.{closure_parts}
use Rattle.cube_laws.proofs.parts_of_a_class.closure_by_parts.Goals as goal

pub returns : goal.returns
returns g c = let law = equality_of g.met.V.Ord.total g.met.V.Value.apart g.met.V.Ord.matches_eq in
    closure_parts law
