use Rattle.cube_laws.proofs.CallerLemmas.{equality_by}
use Rattle.tree_laws.proofs.Children.{node_prefixes, node_above}
use Rattle.tree_laws.proofs.labels.nodes_hang_together.Goals as goal

pub returns-clause-fronts : goal.returns-clause-fronts
returns-clause-fronts g c = λ rows p k h. node_prefixes (equality_by g.met.V.Ord.total g.met.V.Value.apart) rows p k h

pub returns-clause-led_to : goal.returns-clause-led_to
returns-clause-led_to g c =
    λ rows p i d h. let n = node_above (equality_by g.met.V.Ord.total g.met.V.Value.apart) rows p i d h in
    (n.0, n.1, n.4)
