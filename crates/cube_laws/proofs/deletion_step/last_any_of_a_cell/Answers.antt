use Rattle.cube_laws.proofs.LastAny.{determined, tuple_or_last_any}
use Rattle.cube_laws.proofs.Orders.{equality_of}
use Rattle.cube_laws.proofs.deletion_step.last_any_of_a_cell.Goals as goal

pub returns-clause-there : goal.returns-clause-there
returns-clause-there g c = let law = equality_of g.met.V.Ord.total g.met.V.Value.apart g.met.V.Ord.matches_eq in
    λ t u h l. tuple_or_last_any law u t h l

pub returns-clause-determines : goal.returns-clause-determines
returns-clause-determines g c = let law = equality_of g.met.V.Ord.total g.met.V.Value.apart g.met.V.Ord.matches_eq in
    determined law
