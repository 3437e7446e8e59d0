use Rattle.tree_laws.proofs.OneRow.{other_edge, own_edge}
use Rattle.tree_laws.proofs.one_row_more.edges_with_one_row_more.Goals as goal

pub returns-clause-other : goal.returns-clause-other
returns-clause-other g c =
    λ measures xs ys r p u x k e node long o. other_edge g.met.V.Ord.total g.met.V.Value.apart measures xs r ys p u k
    e node x long o

pub returns-clause-own : goal.returns-clause-own
returns-clause-own g c =
    λ measures xs ys r p u x k e node long o. own_edge g.met.V.Ord.total g.met.V.Value.apart measures xs r ys p u k
    e node x long o
