use Rattle.cube_laws.proofs.Deletion.{step}
use Rattle.cube_laws.proofs.Orders.{equality_of}
use Rattle.cube_laws.proofs.Partition.{has_same}
use Rattle.cube_laws.proofs.deletion_step.class_after_a_row_has_gone.Goals as goal

pub returns : goal.returns
returns g c = let law = equality_of g.met.V.Ord.total g.met.V.Value.apart g.met.V.Ord.matches_eq in
    λ xs ys r u i t free above has. step law xs r ys u i t free above (has_same law i t r has)
