use Rattle.cube_laws.proofs.CallerLemmas.{equality_by}
use Rattle.widen_laws.proofs.LongerNodes.{each-node}
use Rattle.widen_laws.proofs.widened_rows.each_node_is_an_old_one_or_a_class.Goals as goal

pub returns : goal.returns
returns g c = λ n rows v p wide h. each-node (equality_by g.met.V.Ord.total g.met.V.Value.apart) v n rows p wide h
