use Rattle.tree_laws.proofs.Counted.{nodes_counted, classes_counted, tree_edges_counted, links_counted}
use Rattle.tree_laws.proofs.counting.counts_of_a_tree.Goals as goal

pub returns-clause-nodes : goal.returns-clause-nodes
returns-clause-nodes g c =
    λ dims measures rows tree wide canonical. nodes_counted g.met.V.Ord.total g.met.V.Value.apart dims measures rows
    wide tree canonical

pub returns-clause-classes : goal.returns-clause-classes
returns-clause-classes g c =
    λ dims measures rows tree wide canonical. classes_counted g.met.V.Ord.total g.met.V.Value.apart dims measures rows
    wide tree canonical

pub returns-clause-tree_edges : goal.returns-clause-tree_edges
returns-clause-tree_edges g c =
    λ dims measures rows tree wide canonical. tree_edges_counted g.met.V.Ord.total g.met.V.Value.apart dims measures
    rows wide tree canonical

pub returns-clause-links : goal.returns-clause-links
returns-clause-links g c =
    λ dims measures rows tree wide canonical. links_counted g.met.V.Ord.total g.met.V.Value.apart dims measures rows
    wide tree canonical
