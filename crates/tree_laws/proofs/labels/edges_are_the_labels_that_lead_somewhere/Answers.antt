use Rattle.tree_laws.proofs.Records.{record_edges}
use Rattle.tree_laws.proofs.labels.edges_are_the_labels_that_lead_somewhere.Goals as goal

pub returns : goal.returns
returns g c =
    λ measures rows p u n x node e is. record_edges g.met.V.Ord.total g.met.V.Value.apart measures rows p
    n node is u x e
