use Rattle.cube_laws.proofs.CallerLemmas.{is_class-is, node_closed, equality_by}
use Rattle.widen_laws.proofs.LongerRecords.{record-any, record-value}
use Rattle.widen_laws.proofs.widened_rows.records_are_kept_or_handed_on.Goals as goal

pub returns-clause-any : goal.returns-clause-any
returns-clause-any g c =
    let equality = equality_by g.met.V.Ord.total g.met.V.Value.apart in
    λ n measures rows v p wide long node.
    let r = node_closed equality rows p node in
    record-any g.met.V.Ord.total g.met.V.Value.apart v n rows wide measures p r.0 long r.1 r.2

pub returns-clause-value : goal.returns-clause-value
returns-clause-value g c =
    let equality = equality_by g.met.V.Ord.total g.met.V.Value.apart in
    λ n measures rows v u wide long class. record-value g.met.V.Ord.total g.met.V.Value.apart v n rows wide measures u
    long ((is_class-is equality rows u).0 class)
