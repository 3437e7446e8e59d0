use Rattle.cube_laws.proofs.CallerLemmas.{equality_by}
use Rattle.tree_laws.proofs.Children.{lead_node, lead_above}
use Rattle.tree_laws.proofs.labels.labels_lead_to_specializations.Goals as goal

pub returns-clause-node : goal.returns-clause-node
returns-clause-node g c
    = λ rows p c' i v h. lead_node (equality_by g.met.V.Ord.total g.met.V.Value.apart) rows p i v c' h

pub returns-clause-above : goal.returns-clause-above
returns-clause-above g c =
    λ rows p c' i v d l h. lead_above (equality_by g.met.V.Ord.total g.met.V.Value.apart) rows p i v c' d l h
