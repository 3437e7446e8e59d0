use Rattle.std.proofs.Common.{None, Some, refl}
use Rattle.cube_laws.proofs.CallerLemmas.{equality_by}
use Rattle.widen_laws.proofs.LongerRows.{closure-longer}
use Rattle.widen_laws.proofs.widened_rows.closures_get_the_value.Goals as goal

pub returns-clause-any : goal.returns-clause-any
returns-clause-any g c =
    λ n rows v p wide h. closure-longer (equality_by g.met.V.Ord.total g.met.V.Value.apart) v n rows p None refl wide h

pub returns-clause-value : goal.returns-clause-value
returns-clause-value g c =
    let equality = equality_by g.met.V.Ord.total g.met.V.Value.apart in
    λ n rows v p wide h. closure-longer equality v n rows p (Some v) (equality.same v) wide h
