use Rattle.cube_laws.proofs.Closures.{meet_all-push}
use Rattle.cube_laws.proofs.Orders.{equality_of}
use Rattle.cube_laws.proofs.lattice.meet_of_one_cell_more.Goals as goal

pub returns : goal.returns
returns g c = let law = equality_of g.met.V.Ord.total g.met.V.Value.apart g.met.V.Ord.matches_eq in
    meet_all-push law
