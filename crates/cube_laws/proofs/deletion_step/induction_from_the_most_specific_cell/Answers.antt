use Rattle.cube_laws.proofs.Deletion.{from_most_specific}
use Rattle.cube_laws.proofs.Orders.{equality_of}
use Rattle.std.proofs.Common.{true, ◌≡◌}
use Rattle.cube_laws.proofs.deletion_step.induction_from_the_most_specific_cell.Goals as goal

pub returns : goal.returns
returns g c = let law = equality_of g.met.V.Ord.total g.met.V.Value.apart g.met.V.Ord.matches_eq in
    λ holds t by u h. from_most_specific law (λ x. holds x ≡ true) t by u h
