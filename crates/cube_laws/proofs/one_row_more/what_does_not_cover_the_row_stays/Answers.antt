use Rattle.cube_laws.proofs.OneRow.{class_stays, cov_stays, node_stays}
use Rattle.cube_laws.proofs.Orders.{equality_of}
use Rattle.cube_laws.proofs.one_row_more.what_does_not_cover_the_row_stays.Goals as goal

pub returns-clause-rows : goal.returns-clause-rows
returns-clause-rows g c = let law = equality_of g.met.V.Ord.total g.met.V.Value.apart g.met.V.Ord.matches_eq in
    λ xs ys r c' h. cov_stays law xs r ys c' h

pub returns-clause-classes : goal.returns-clause-classes
returns-clause-classes g c = let law = equality_of g.met.V.Ord.total g.met.V.Value.apart g.met.V.Ord.matches_eq in
    λ xs ys r u h. class_stays law xs r ys u h

pub returns-clause-nodes : goal.returns-clause-nodes
returns-clause-nodes g c = let law = equality_of g.met.V.Ord.total g.met.V.Value.apart g.met.V.Ord.matches_eq in
    λ xs ys r p h. node_stays law xs r ys p h
