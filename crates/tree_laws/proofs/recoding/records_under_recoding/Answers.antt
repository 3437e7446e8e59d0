use Rattle.cube_laws.proofs.CallerLemmas.{equality_by, known-closed}
use Rattle.tree_laws.proofs.Recoded.{record-coded}
use Rattle.tree_laws.proofs.Records.{record_closure}
use Rattle.tree_laws.proofs.recoding.records_under_recoding.Goals as goal

pub returns : goal.returns
returns g c =
    λ known codes tells measures rows p n h node is.
    let u = record_closure g.met.A.Ord.total g.met.A.Value.apart measures rows p n is in
    record-coded g.met.A.Ord.total g.met.A.Value.apart g.met.B.Ord.total g.met.B.Value.apart tells rows h measures p
    (known-closed (equality_by g.met.A.Ord.total g.met.A.Value.apart) known rows p u.0 h u.1) n node is
