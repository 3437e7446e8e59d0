use Rattle.cube_laws.proofs.Bounds.{tuple-class, tuple-covers}
use Rattle.cube_laws.proofs.Orders.{equality_of}
use Rattle.cube_laws.proofs.upper_bounds.tuples_of_rows_are_upper_bounds.Goals as goal

pub returns-clause-upper_bound : goal.returns-clause-upper_bound
returns-clause-upper_bound g c = let law = equality_of g.met.V.Ord.total g.met.V.Value.apart g.met.V.Ord.matches_eq in
    tuple-class law

pub returns-clause-alone : goal.returns-clause-alone
returns-clause-alone g c = let law = equality_of g.met.V.Ord.total g.met.V.Value.apart g.met.V.Ord.matches_eq in
    tuple-covers law
