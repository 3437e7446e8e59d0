use Rattle.tree_laws.proofs.OneRow.{node_fresh, node_met}
use Rattle.tree_laws.proofs.one_row_more.nodes_with_one_row_more.Goals as goal

pub returns-clause-alone : goal.returns-clause-alone
returns-clause-alone g c = λ xs ys r p k e. node_fresh g.met.V.Ord.total g.met.V.Value.apart xs r ys p k e

pub returns-clause-with_others : goal.returns-clause-with_others
returns-clause-with_others g c = λ xs ys r p u k e. node_met g.met.V.Ord.total g.met.V.Value.apart xs r ys p u k e
