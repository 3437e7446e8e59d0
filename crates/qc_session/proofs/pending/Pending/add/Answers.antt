use Rattle.std.proofs.lemmas.Result.{IfErr-weaker, on_ok_weaker}
use Rattle.qc_session.proofs.FlushLemmas.{prefix-more, prefix-on, handed-all, handed-on, handed-part, on_err}
use Rattle.qc_session.proofs.pending.Pending.add.Goals as goal

pub returns-in_err-flush-clause-err : goal.returns-in_err-flush-clause-err
returns-in_err-flush-clause-err g c
    = on_err c.from_residual.result (prefix-more c.args.self.now c.args.reply.now _ _ c.in_err-flush.ensures.err)

pub returns-clause-ok : goal.returns-clause-ok
returns-clause-ok g c =
    on_ok_weaker c.write_all.result
    (λ all. rw c.in_ok-flush.ensures.none
    (handed-on _ _ _ _ _ _ _ c.in_ok-flush.ensures.ok (handed-all c.args.reply.now _ _ all)))
    c.write_all.ensures.all

pub returns-clause-err : goal.returns-clause-err
returns-clause-err g c =
    IfErr-weaker c.write_all.result _ _
    (λ e part. prefix-on _ _ _ _ _ _ c.in_ok-flush.ensures.ok (handed-part e.written c.args.reply.now _ _ part))
    c.write_all.ensures.part
