use Rattle.tree_laws.proofs.Records.{target_node, target_apart}
use Rattle.tree_laws.proofs.apart_from_a_row.targets_of_edges.Goals as goal

pub returns-clause-nodes : goal.returns-clause-nodes
returns-clause-nodes g c =
    λ measures rows p n x node is m. target_node g.met.V.Ord.total g.met.V.Value.apart measures rows p n node is x m

pub returns-clause-apart : goal.returns-clause-apart
returns-clause-apart g c =
    λ measures rows r p n x node is h m. target_apart g.met.V.Ord.total g.met.V.Value.apart measures rows p n
    node is r x h m
