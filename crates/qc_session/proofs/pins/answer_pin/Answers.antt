use Rattle.std.proofs.Common.{◌∙◌, Err, List, ap, ap₂, length, sym}
use Rattle.cube_defs.specs.Text.{Text, text_cmp}
use Rattle.cube_defs.specs.Tree.{classes}
use Rattle.pinned_view.specs.Versions.{Versions}
use Rattle.reply_text.specs.Replies.{pinned_text, refused_text}
use Rattle.warehouse.specs.State.{Contents}
use Rattle.qc_session.proofs.PinAnswers.{pin-full, pin-made, pin-taken}
use Rattle.qc_session.proofs.pins.answer_pin.Goals as goal

pub returns-in-Ok : goal.returns-in-Ok
returns-in-Ok c =
    let made = rw c.as_str.ensures.value at c.in-Ok.ensures.refused in
    let is = rw c.as_str.ensures.value at c.in-Ok.ensures.ok in
    let present = c.now.ensures.value ∙ ap (λ (v : Versions). v.now) is in
    let count = c.stats.ensures.classes ∙ ap (λ (h : Contents). length (classes text_cmp h.state.rows)) present in
    pin-made c.args.held.now c.args.number c.args.name.now c.pin.new.self c.pinned_reply.result made is
    (c.pinned_reply.ensures ∙ ap₂ (pinned_text c.args.number) c.as_str-in-Ok.ensures.value count)

pub returns-in-Err-NameTaken : goal.returns-in-Err-NameTaken
returns-in-Err-NameTaken c =
    pin-taken c.args.held.now c.args.number c.args.name.now c.pin.new.self c.refused.result
    (ap Err (sym c.in-Err-NameTaken.field-0-is) ∙ rw c.as_str.ensures.value at c.in-Err-NameTaken.ensures.refused)
    c.in-Err-NameTaken.ensures.err
    (c.refused.ensures ∙ ap (λ (texts : List Text). refused_text c.args.number texts)
    c.name_taken_refusal.ensures.texts)

pub returns-in-Err-AllPinned : goal.returns-in-Err-AllPinned
returns-in-Err-AllPinned c =
    pin-full c.args.held.now c.args.number c.args.name.now c.pin.new.self c.refused-in-Err-AllPinned.result
    (ap Err (sym c.in-Err-AllPinned.field-0-is) ∙ rw c.as_str.ensures.value at c.in-Err-AllPinned.ensures.refused)
    c.in-Err-AllPinned.ensures.err
    (c.refused-in-Err-AllPinned.ensures
    ∙ ap (λ (texts : List Text). refused_text c.args.number texts) c.all_pinned_refusal.ensures.texts)
