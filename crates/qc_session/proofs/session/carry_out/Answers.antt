use Rattle.std.proofs.Common.{◌+◌, ◌∙◌, ap, refl}
use Rattle.pinned_view.specs.Versions.{Versions}
use Rattle.qc_session.specs.Pins.{pinned_state_in}
use Rattle.qc_session.proofs.Answered.{on-ok}
use Rattle.qc_session.proofs.Costs.{answered-within, skipped-within}
use Rattle.qc_session.proofs.Ended.{rose-later}
use Rattle.qc_session.proofs.FlushLemmas.{prefix-then, handed-then}
use Rattle.qc_session.proofs.Taken.{ends-answered, ends-broken, ends-memory, ends-unread, later-then, stay-same}
use Rattle.qc_session.proofs.session.carry_out.Goals as goal

pub returns-in_default : goal.returns-in_default
returns-in_default g c = record {
  stay = stay-same _ _ _;
  later = c.flush_if.ensures.cause.later;
  ends = ends-broken refl refl c.in_default.ensures.cause.failed c.in_default.ensures.err;
  steps = tt;
}

pub returns-in-Ok-answer_line : goal.returns-in-Ok-answer_line
returns-in-Ok-answer_line g c =
    let e = c.in-Ok-answer_line.ensures in
    record {
      stay = e.stay;
      later = later-then _ _ _ c.flush_if.ensures.cause.later c.put_reply.ensures.later;
      ends = ends-answered c.put_reply.result _ _ _ _ refl refl c.requires.taken c.requires.next.up_to e.answered
          c.in-Ok.ensures.ok (rose-later _ _ _ c.flush_if.ensures.cause.later)
          (rw c.as_bytes.ensures at c.put_reply.ensures.puts);
      steps = on-ok c.put_reply.result _ (answered-within (g.F.Files.told c.args.files.now) _ c.args.session.now.skipped.items
          (c.args.session.now.number + 1) c.args.line.now _ _ c.requires.taken e.steps);
    }

pub returns-in-Err-Memory : goal.returns-in-Err-Memory
returns-in-Err-Memory g c =
    let e = c.in-Err-Memory.ensures in
    let skip = c.skip_line.ensures in
    record {
      stay = e.stay;
      later = later-then _ _ _ c.flush_if.ensures.cause.later skip.later;
      ends = ends-memory c.skip_line.result _ _ _ skip.kept.0 skip.kept.2 skip.skipped c.requires.taken
          (rw c.in-Err-Memory.field-0-is at e.skips)
          (ap (λ (v : Versions). pinned_state_in v) (skip.kept.1 ∙ e.same)) c.in-Ok.ensures.ok
          (rose-later _ _ _ c.flush_if.ensures.cause.later) skip.puts;
      steps = on-ok c.skip_line.result _ (skipped-within (g.F.Files.told c.args.files.now)
          (pinned_state_in c.args.session.now.pinned) _ _ _ c.args.line.now c.args.steps.now c.answer_line.new.steps
          c.requires.taken skip.skipped);
    }

pub returns-in-Ok-flush : goal.returns-in-Ok-flush
returns-in-Ok-flush g c =
    let e = c.in-Err-Fault.ensures in
    record {
      stay = e.stay;
      later = later-then _ _ _ c.flush_if.ensures.cause.later c.flush.ensures.cause.later;
      ends = ends-unread c.in-Err-Fault.name refl refl (rw c.in-Err-Fault.field-0-is at e.fault)
          (rw c.in-Err-Fault.field-0-is at e.skips) (rw c.in-Err-Fault.field-0-is at e.untold)
          (handed-then _ _ _ _ _ _ c.in-Ok.ensures.ok c.in-Ok-flush.ensures.ok);
      steps = tt;
    }

pub returns-in-Err : goal.returns-in-Err
returns-in-Err g c =
    let e = c.in-Err-Fault.ensures in
    record {
      stay = e.stay;
      later = later-then _ _ _ c.flush_if.ensures.cause.later c.flush.ensures.cause.later;
      ends = ends-broken refl refl (rose-later _ _ _ c.flush_if.ensures.cause.later c.in-Err.ensures.cause.failed)
          (prefix-then _ _ _ _ _ c.in-Ok.ensures.ok c.in-Err.ensures.err);
      steps = tt;
    }
