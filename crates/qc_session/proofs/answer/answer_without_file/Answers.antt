use Rattle.std.proofs.Common.{Some, ap, refl}
use Rattle.std.proofs.lemmas.Result.{IfOk-weaker, on_ok_weaker}
use Rattle.qc_session.specs.Pins.{PinnedAnswer, pinned_state_in}
use Rattle.query_script.specs.Queries.{query_in}
use Rattle.qc_session.proofs.Answered.{kept, wants-all}
use Rattle.qc_session.proofs.Costs.{no-steps}
use Rattle.qc_session.proofs.FlushLemmas.{on_err}
use Rattle.qc_session.proofs.answer.answer_without_file.Goals as goal

pub returns-in-Widen : goal.returns-in-Widen
returns-in-Widen g c = rw c.in-Widen.is (record {
  same = c.answer_widen.ensures.same;
  memory = on_err c.answer_widen.result refl;
  answered = IfOk-weaker c.answer_widen.result _ _ (λ reply e t. ap (λ (a : PinnedAnswer). Some a) e)
      c.answer_widen.ensures.ok;
  steps = on_ok_weaker c.answer_widen.result (λ w t. w) c.answer_widen.ensures.steps;
})

pub returns-in-Pin : goal.returns-in-Pin
returns-in-Pin g c = rw c.in-Pin.is (record {
  same = tt;
  memory = tt;
  answered = λ t. ap (λ (a : PinnedAnswer). Some a) c.answer_pin.ensures;
  steps = λ t. no-steps c.args.steps.now;
})

pub returns-in-Unpin : goal.returns-in-Unpin
returns-in-Unpin g c = rw c.in-Unpin.is (record {
  same = tt;
  memory = tt;
  answered = λ t. ap (λ (a : PinnedAnswer). Some a) c.answer_unpin.ensures;
  steps = λ t. no-steps c.args.steps.now;
})

pub returns-in-At : goal.returns-in-At
returns-in-At g c = rw c.in-At.is (record {
  same = on_err c.answer_at.result refl;
  memory = on_err c.answer_at.result refl;
  answered = IfOk-weaker c.answer_at.result _ _ (λ reply e t. kept (pinned_state_in c.args.pinned.now) _ _ e)
      c.answer_at.ensures.reply;
  steps = on_ok_weaker c.answer_at.result (λ w t. w) c.answer_at.ensures.steps;
})

pub returns-in-Ask : goal.returns-in-Ask
returns-in-Ask g c =
    let e = rw c.now.ensures.value at c.answer_present.ensures in
    rw c.in-Ask.is (record {
      same = on_err c.answer_present.result refl;
      memory = wants-all c.answer_present.result (query_in c.in-Ask.query) e.memory;
      answered = IfOk-weaker c.answer_present.result _ _ (λ reply e t. kept (pinned_state_in c.args.pinned.now) _ _ e)
          e.reply;
      steps = on_ok_weaker c.answer_present.result (λ w t. w) e.steps;
    })
