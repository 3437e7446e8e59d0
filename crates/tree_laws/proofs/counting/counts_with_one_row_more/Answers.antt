use Rattle.tree_laws.proofs.MoreCounts.{classes_no_fewer, nodes_no_fewer}
use Rattle.tree_laws.proofs.counting.counts_with_one_row_more.Goals as goal

pub returns-clause-classes : goal.returns-clause-classes
returns-clause-classes g c = λ xs ys r. classes_no_fewer g.met.V.Ord.total g.met.V.Value.apart xs r ys

pub returns-clause-nodes : goal.returns-clause-nodes
returns-clause-nodes g c = λ xs ys r. nodes_no_fewer g.met.V.Ord.total g.met.V.Value.apart xs r ys
