use Rattle.cube_laws.proofs.Cells.{meet_great, meet_left, meet_right}
use Rattle.cube_laws.proofs.Orders.{equality_of}
use Rattle.cube_laws.proofs.lattice.meet_is_the_greatest_lower_bound.Goals as goal

pub returns-clause-left : goal.returns-clause-left
returns-clause-left g c = let law = equality_of g.met.V.Ord.total g.met.V.Value.apart g.met.V.Ord.matches_eq in
    meet_left law

pub returns-clause-right : goal.returns-clause-right
returns-clause-right g c = let law = equality_of g.met.V.Ord.total g.met.V.Value.apart g.met.V.Ord.matches_eq in
    meet_right law

pub returns-clause-greatest : goal.returns-clause-greatest
returns-clause-greatest g c = let law = equality_of g.met.V.Ord.total g.met.V.Value.apart g.met.V.Ord.matches_eq in
    meet_great law
