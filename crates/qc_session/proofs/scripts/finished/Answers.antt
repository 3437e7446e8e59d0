use Rattle.std.proofs.Common.{Some, ap, refl}
use Rattle.warehouse.specs.State.{Contents}
use Rattle.qc_session.proofs.Ends.{hands-end}
use Rattle.qc_session.proofs.scripts.finished.Goals as goal

pub returns-clause-end : goal.returns-clause-end
returns-clause-end c = ap (λ (h : Contents). Some h.state) c.finish-warehouse.ensures

pub returns-clause-hands : goal.returns-clause-hands
returns-clause-hands c = hands-end _ c.finish-warehouse.result refl refl c.recall_invariant.ensures
