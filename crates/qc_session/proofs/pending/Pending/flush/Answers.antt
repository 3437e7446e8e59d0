use Rattle.std.proofs.Common.{◌≡◌}
use Rattle.qc_session.proofs.FlushLemmas.{handed-part, on_err}
use Rattle.qc_session.proofs.pending.Pending.flush.Goals as goal

pub returns-in_err-write_all-clause-err : goal.returns-in_err-write_all-clause-err
returns-in_err-write_all-clause-err g c =
    let whole : c.deref.result.now ≡ c.args.self.now = cc in
    let took = rw whole at c.in_err-write_all.ensures.part in
    on_err c.from_residual.result (handed-part c.in_err-write_all.field-0.0.written c.args.self.now _ _ took)
