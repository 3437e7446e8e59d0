use Rattle.cube_laws.proofs.OneRow.{class-insert, node-insert}
use Rattle.cube_laws.proofs.Orders.{equality_of}
use Rattle.cube_laws.proofs.upper_bounds.upper_bounds_stay_as_a_row_comes.Goals as goal

pub returns-clause-classes : goal.returns-clause-classes
returns-clause-classes g c = let law = equality_of g.met.V.Ord.total g.met.V.Value.apart g.met.V.Ord.matches_eq in
    λ xs ys r u. class-insert law xs r ys u

pub returns-clause-nodes : goal.returns-clause-nodes
returns-clause-nodes g c = let law = equality_of g.met.V.Ord.total g.met.V.Value.apart g.met.V.Ord.matches_eq in
    λ xs ys r p. node-insert law xs r ys p
