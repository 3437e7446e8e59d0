use Rattle.std.proofs.Common.{◌∙◌, ◌<◌, Err, List, ap, length, refl}
use Rattle.std.proofs.lemmas.Result.{IfOk-weaker}
use Rattle.cube_defs.specs.Text.{Text}
use Rattle.reply_text.specs.Replies.{refused_text}
use Rattle.warehouse.specs.Widening.{DimsFull, NodesFull}
use Rattle.qc_session.proofs.Answered.{on-ok}
use Rattle.qc_session.proofs.Costs.{pinned-within, unwidened-within, widened-within}
use Rattle.qc_session.proofs.FlushLemmas.{on_err}
use Rattle.qc_session.proofs.Widened.{dims-not-pinned, made-not-pinned, nodes-not-pinned, widen-made, widen-pinned, widen-refused}
use Rattle.qc_session.proofs.widening.answer_widen.Goals as goal

pub returns-in-Err-Pinned : goal.returns-in-Err-Pinned
returns-in-Err-Pinned g c =
    let e = c.in-Err-Pinned.ensures in
    record {
      ok = rw e.err (widen-pinned c.args.pinned.now c.args.number c.args.name.now c.args.value.now c.refused.result
          (e.pinned.0 (ap Err c.in-Err-Pinned.field-0-is))
          (c.refused.ensures ∙ ap (λ (texts : List Text). refused_text c.args.number texts)
          c.pinned_refusal.ensures.texts));
      same = tt;
      steps = rw (e.still (ap Err c.in-Err-Pinned.field-0-is)) (pinned-within c.args.pinned.now.now.state
          c.args.pinned.now.pins c.args.name.now c.args.value.now c.args.steps.now
          (e.pinned.0 (ap Err c.in-Err-Pinned.field-0-is)));
    }

pub returns-in-Err-DimsFull : goal.returns-in-Err-DimsFull
returns-in-Err-DimsFull g c =
    let e = c.in-Err-DimsFull.ensures in
    let gives = rw (c.as_str.ensures.value, c.as_str-2.ensures.value, c.in-Err-DimsFull.field-0-is) at e.gives in
    let other = rw c.in-Err-DimsFull.field-0-is at e.pinned.1 in
    record {
      ok = rw e.err (IfOk-weaker c.refused_widening.result _ _
          (λ reply made. widen-refused c.args.pinned.now c.args.number c.args.name.now c.args.value.now DimsFull _
          (λ some. dims-not-pinned _ refl (other some)) gives made) c.refused_widening.ensures);
      same = on_err c.refused_widening.result e.err;
      steps = on-ok c.refused_widening.result _ (unwidened-within c.args.pinned.now.now.state c.args.pinned.now.pins
          c.args.name.now c.args.value.now DimsFull c.args.steps.now c.widen.new.steps (λ some. dims-not-pinned _ refl (other some)) gives);
    }

pub returns-in-Err-NodesFull : goal.returns-in-Err-NodesFull
returns-in-Err-NodesFull g c =
    let e = c.in-Err-NodesFull.ensures in
    let gives = rw (c.as_str.ensures.value, c.as_str-2.ensures.value, c.in-Err-NodesFull.field-0-is) at e.gives in
    let other = rw c.in-Err-NodesFull.field-0-is at e.pinned.1 in
    record {
      ok = rw e.err (IfOk-weaker c.refused_widening-in-Err-NodesFull.result _ _
          (λ reply made. widen-refused c.args.pinned.now c.args.number c.args.name.now c.args.value.now NodesFull _
          (λ some. nodes-not-pinned _ refl (other some)) gives made) c.refused_widening-in-Err-NodesFull.ensures);
      same = on_err c.refused_widening-in-Err-NodesFull.result e.err;
      steps = on-ok c.refused_widening-in-Err-NodesFull.result _ (unwidened-within c.args.pinned.now.now.state c.args.pinned.now.pins
          c.args.name.now c.args.value.now NodesFull c.args.steps.now c.widen.new.steps
          (λ some. nodes-not-pinned _ refl (other some)) gives);
    }

pub returns-in-Ok : goal.returns-in-Ok
returns-in-Ok g c =
    let e = c.in-Ok.ensures in
    let free : 0 < length c.args.pinned.now.pins → ⊥ = λ some. made-not-pinned _ c.in-Ok.taken refl (e.pinned.1 some) in
    record {
      ok = widen-made c.args.pinned.now c.widen.new.self c.args.number c.args.name.now c.args.value.now c.in-Ok.taken
          c.dims.result c.widened_reply.result free (rw (c.as_str.ensures.value, c.as_str-2.ensures.value) at e.gives) e.pins
          (rw (c.schema-schema.ensures.value, c.now.ensures.value) at c.dims.ensures.count) c.widened_reply.ensures;
      same = tt;
      steps = widened-within c.args.pinned.now.now.state c.args.pinned.now.pins c.args.name.now c.args.value.now
          c.args.steps.now c.widen.new.steps free e.steps;
    }
