use Rattle.tree_laws.proofs.TreeEdges.{one_tree}
use Rattle.tree_laws.proofs.counting.tree_edges_make_one_tree.Goals as goal

pub returns : goal.returns
returns g c = λ dims rows r wide m. one_tree g.met.V.Ord.total g.met.V.Value.apart dims rows wide r m
