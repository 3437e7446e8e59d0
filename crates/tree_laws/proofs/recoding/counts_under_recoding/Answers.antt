use Rattle.tree_laws.proofs.RecodedCounts.{classes_as_many, nodes_as_many, tree_edges_as_many, links_as_many}
use Rattle.tree_laws.proofs.recoding.counts_under_recoding.Goals as goal

pub returns-clause-classes : goal.returns-clause-classes
returns-clause-classes g c =
    λ known codes tells rows h. classes_as_many g.met.A.Ord.total g.met.A.Value.apart g.met.B.Ord.total
    g.met.B.Value.apart tells rows h

pub returns-clause-nodes : goal.returns-clause-nodes
returns-clause-nodes g c =
    λ known codes tells rows h. nodes_as_many g.met.A.Ord.total g.met.A.Value.apart g.met.B.Ord.total
    g.met.B.Value.apart tells rows h

pub returns-clause-tree_edges : goal.returns-clause-tree_edges
returns-clause-tree_edges g c =
    λ known codes tells rows h. tree_edges_as_many g.met.A.Ord.total g.met.A.Value.apart g.met.B.Ord.total
    g.met.B.Value.apart tells rows h

pub returns-clause-links : goal.returns-clause-links
returns-clause-links g c =
    λ known codes tells rows h. links_as_many g.met.A.Ord.total g.met.A.Value.apart g.met.B.Ord.total
    g.met.B.Value.apart tells rows h
