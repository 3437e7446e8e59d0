use Rattle.cube_laws.proofs.CallerLemmas.{equality_by}
use Rattle.widen_laws.proofs.LongerRows.{class-value, node-any, node-value}
use Rattle.widen_laws.proofs.widened_rows.nodes_are_the_old_ones_and_the_classes.Goals as goal

pub returns-clause-any : goal.returns-clause-any
returns-clause-any g c =
    λ n rows v p wide h. node-any (equality_by g.met.V.Ord.total g.met.V.Value.apart) v n rows p wide h

pub returns-clause-value : goal.returns-clause-value
returns-clause-value g c
    = λ n rows v u wide h. node-value (equality_by g.met.V.Ord.total g.met.V.Value.apart) v n rows u wide h

pub returns-clause-class : goal.returns-clause-class
returns-clause-class g c
    = λ n rows v u wide h. class-value (equality_by g.met.V.Ord.total g.met.V.Value.apart) v n rows u wide h
