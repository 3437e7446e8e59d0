use Rattle.tree_laws.proofs.Records.{record_rises}
use Rattle.tree_laws.proofs.labels.edges_are_in_order.Goals as goal

pub returns : goal.returns
returns g c = λ measures rows p n is. record_rises g.met.V.Ord.total g.met.V.Value.apart measures rows p n is
