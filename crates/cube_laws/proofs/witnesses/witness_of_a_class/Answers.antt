use Rattle.cube_laws.proofs.Lists.{all_from}
use Rattle.cube_laws.proofs.Orders.{equality_of}
use Rattle.cube_laws.proofs.Witness.{another, two_rows}
use Rattle.cube_laws.proofs.witnesses.witness_of_a_class.Goals as goal

pub returns-clause-there : goal.returns-clause-there
returns-clause-there g c = let law = equality_of g.met.V.Ord.total g.met.V.Value.apart g.met.V.Ord.matches_eq in
    λ rows n u i t e free inside long. another law rows n u i t e free inside (all_from _ rows long)

pub returns-clause-two_rows : goal.returns-clause-two_rows
returns-clause-two_rows g c = let law = equality_of g.met.V.Ord.total g.met.V.Value.apart g.met.V.Ord.matches_eq in
    λ xs ys r u z i v h free apart e. two_rows law xs r ys u z i v h free apart e
