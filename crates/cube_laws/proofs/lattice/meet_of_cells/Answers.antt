use Rattle.cube_laws.proofs.Cells.{leq_of_meet, meet_assoc, meet_comm, meet_idem, meet_of_leq}
use Rattle.cube_laws.proofs.Orders.{equality_of}
use Rattle.cube_laws.proofs.lattice.meet_of_cells.Goals as goal

pub returns-clause-commutative : goal.returns-clause-commutative
returns-clause-commutative g c = let law = equality_of g.met.V.Ord.total g.met.V.Value.apart g.met.V.Ord.matches_eq in
    meet_comm law

pub returns-clause-associative : goal.returns-clause-associative
returns-clause-associative g c = let law = equality_of g.met.V.Ord.total g.met.V.Value.apart g.met.V.Ord.matches_eq in
    meet_assoc law

pub returns-clause-idempotent : goal.returns-clause-idempotent
returns-clause-idempotent g c = let law = equality_of g.met.V.Ord.total g.met.V.Value.apart g.met.V.Ord.matches_eq in
    meet_idem law

pub returns-clause-order : goal.returns-clause-order
returns-clause-order g c = let law = equality_of g.met.V.Ord.total g.met.V.Value.apart g.met.V.Ord.matches_eq in
    λ c d. (meet_of_leq law c d, leq_of_meet law c d)
