use Rattle.cube_laws.proofs.Bounds.{class-meet, meet-class}
use Rattle.cube_laws.proofs.Orders.{equality_of}
use Rattle.cube_laws.proofs.upper_bounds.upper_bounds_are_meets_of_rows.Goals as goal

pub returns-clause-meets : goal.returns-clause-meets
returns-clause-meets g c = let law = equality_of g.met.V.Ord.total g.met.V.Value.apart g.met.V.Ord.matches_eq in
    meet-class law

pub returns-clause-no_others : goal.returns-clause-no_others
returns-clause-no_others g c = let law = equality_of g.met.V.Ord.total g.met.V.Value.apart g.met.V.Ord.matches_eq in
    class-meet law
