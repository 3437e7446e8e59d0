use Rattle.std.proofs.lemmas.Result.{on_err_weaker, on_ok_weaker}
use Rattle.qc_session.proofs.FlushLemmas.{prefix-then, handed-then}
use Rattle.qc_session.proofs.pending.Pending.put.Goals as goal

pub returns-clause-ok : goal.returns-clause-ok
returns-clause-ok g c =
    on_ok_weaker c.flush_if.result (handed-then _ _ _ _ _ _ c.in_ok-add.ensures.ok) c.flush_if.ensures.ok

pub returns-clause-err : goal.returns-clause-err
returns-clause-err g c =
    on_err_weaker c.flush_if.result (prefix-then _ _ _ _ _ c.in_ok-add.ensures.ok) c.flush_if.ensures.err
