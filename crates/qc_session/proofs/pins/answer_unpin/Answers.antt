use Rattle.std.proofs.Common.{◌∙◌, List, ap}
use Rattle.cube_defs.specs.Text.{Text}
use Rattle.reply_text.specs.Replies.{refused_text}
use Rattle.qc_session.proofs.PinAnswers.{unpin-done, unpin-none}
use Rattle.qc_session.proofs.pins.answer_unpin.Goals as goal

pub returns-in-Ok : goal.returns-in-Ok
returns-in-Ok c =
    unpin-done c.args.held.now c.args.number c.args.name.now c.unpin.new.self c.unpinned_reply.result
    (rw c.as_str.ensures.value at c.in-Ok.ensures.found) (rw c.as_str.ensures.value at c.in-Ok.ensures.ok)
    (rw c.as_str-in-Ok.ensures.value at c.unpinned_reply.ensures)

pub returns-in-Err : goal.returns-in-Err
returns-in-Err c =
    unpin-none c.args.held.now c.args.number c.args.name.now c.unpin.new.self c.refused.result
    (rw c.as_str.ensures.value at c.in-Err.ensures.missing) c.in-Err.ensures.err
    (c.refused.ensures ∙ ap (λ (texts : List Text). refused_text c.args.number texts)
    c.not_pinned_refusal.ensures.texts)
