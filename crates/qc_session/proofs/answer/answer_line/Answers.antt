use Rattle.std.proofs.Common.{Ok, ap, refl, true, ◌≡◌}
use Rattle.std.proofs.lemmas.Result.{IfErr-weaker}
use Rattle.qc_io.specs.Outside.{Rose}
use Rattle.query_script.specs.Commands.{command_in, wants_memory}
use Rattle.query_script.specs.Lines.{may_want_memory}
use Rattle.query_script.specs.Questions.{question_in}
use Rattle.query_script.specs.Faults.{line_fault_in}
use Rattle.reply_text.specs.Replies.{line_texts}
use Rattle.qc_session.specs.Answers.{file_named, file_of}
use Rattle.qc_session.specs.Pins.{pinned_state_in}
use Rattle.qc_session.proofs.Answered.{fault-answered, line-answered, memory-alone}
use Rattle.qc_session.proofs.Costs.{fault-within, line-within}
use Rattle.qc_session.proofs.Stopped.{fault-alone, line-skips}
use Rattle.qc_session.proofs.Taken.{stay-same}
use Rattle.qc_session.proofs.answer.answer_line.Goals as goal

pub returns-in-Ok : goal.returns-in-Ok
returns-in-Ok g c =
    let e = c.answer_command.ensures in
    let told = g.F.Files.told c.args.files.now in
    let state = pinned_state_in c.args.pinned.now in
    let question = question_in c.in-Ok.command in
    let gives : command_in c.args.pinned.now.now.state.schema c.args.line.now ≡ Ok question
    = rw (c.schema.ensures.value, c.now.ensures.value) at c.in-Ok.ensures.gives in
    let rose = Rose (g.F.Files.faults c.args.files.now) (g.F.Files.faults c.answer_command.new.files) in
    record {
      stay = e.stay;
      same = e.same;
      skips = line-skips c.answer_command.result (wants_memory question ≡ true) (may_want_memory c.args.line.now ≡ true)
          rose (file_named (Ok question)) (file_of c.args.pinned.now.now.state.schema c.args.line.now) c.in-Ok.ensures.wants
          (ap file_named gives) e.memory e.fault;
      fault = IfErr-weaker c.answer_command.result _ _
          (λ stop h. fault-alone stop rose (file_named (Ok question)) h) e.fault;
      untold = e.untold;
      answered = line-answered c.answer_command.result told state c.args.line.now c.args.number question
          (pinned_state_in c.answer_command.new.pinned) gives e.answered;
      steps = line-within c.answer_command.result told state c.args.line.now question c.args.steps.now
          c.answer_command.new.steps gives e.steps;
    }

pub returns-in-Some : goal.returns-in-Some
returns-in-Some g c =
    let told = g.F.Files.told c.args.files.now in
    let state = pinned_state_in c.args.pinned.now in
    let gives = rw (c.schema.ensures.value, c.now.ensures.value) at c.in-Err.ensures.gives in
    let texts = c.in-Some.ensures.texts in
    let fault = line_fault_in c.in-Err.cause in
    record {
      stay = stay-same _ _ _;
      same = tt;
      skips = tt;
      fault = tt;
      untold = tt;
      answered = fault-answered told state c.args.line.now c.args.number fault _ c.refused.result texts gives
          c.refused.ensures;
      steps = fault-within told state c.args.line.now c.args.steps.now fault line_texts _ texts gives;
    }

pub returns-in-None : goal.returns-in-None
returns-in-None g c = record {
  stay = stay-same _ _ _;
  same = refl;
  skips = c.in-Err.ensures.memory (memory-alone c.in-Err.cause c.in-None.ensures.texts);
  fault = tt;
  untold = tt;
  answered = tt;
  steps = tt;
}
