use Rattle.std.proofs.Common.{refl}
use Rattle.std.proofs.lemmas.Result.{on_ok_weaker}
use Rattle.qc_io.specs.Outside.{Rose}
use Rattle.warehouse.specs.Batch as batches
use Rattle.qc_session.proofs.Answered.{for_told}
use Rattle.qc_session.proofs.Costs.{file-within}
use Rattle.qc_session.proofs.Stopped.{fault-named, memory-wanted}
use Rattle.qc_session.proofs.Taken.{stay-same}
use Rattle.qc_session.proofs.answer.answer_command.Goals as goal

pub returns-in-Ok : goal.returns-in-Ok
returns-in-Ok g c =
    let told = g.F.Files.told c.args.files.now in
    record {
      stay = stay-same _ _ _;
      same = tt;
      memory = tt;
      fault = tt;
      untold = tt;
      answered = for_told told _ c.in-Ok.ensures.answered;
      steps = for_told told _ c.in-Ok.ensures.steps;
    }

pub returns-in-Err : goal.returns-in-Err
returns-in-Err g c = record {
  stay = stay-same _ _ _;
  same = rw c.in-Err.ensures.same refl;
  memory = c.in-Err.ensures.memory;
  fault = tt;
  untold = tt;
  answered = tt;
  steps = tt;
}

pub returns-in-Load : goal.returns-in-Load
returns-in-Load g c =
    let e = c.answer_file.ensures in
    rw c.in-Load.is (record {
      stay = e.stay;
      same = e.same;
      memory = memory-wanted c.answer_file.result _ refl;
      fault = fault-named c.answer_file.result c.in-Load.name
          (Rose (g.F.Files.faults c.args.files.now) (g.F.Files.faults c.answer_file.new.files)) e.fault;
      untold = e.untold;
      answered = e.answered;
      steps = on_ok_weaker c.answer_file.result
          (file-within (g.F.Files.told c.args.files.now) c.in-Load.name batches.Load
          c.args.pinned.now.now.state c.args.steps.now c.answer_file.new.steps) e.steps;
    })

pub returns-in-Apply : goal.returns-in-Apply
returns-in-Apply g c =
    let e = c.answer_file-in-Apply.ensures in
    rw c.in-Apply.is (record {
      stay = e.stay;
      same = e.same;
      memory = memory-wanted c.answer_file-in-Apply.result _ refl;
      fault = fault-named c.answer_file-in-Apply.result c.in-Apply.name
          (Rose (g.F.Files.faults c.args.files.now) (g.F.Files.faults c.answer_file-in-Apply.new.files)) e.fault;
      untold = e.untold;
      answered = e.answered;
      steps = on_ok_weaker c.answer_file-in-Apply.result
          (file-within (g.F.Files.told c.args.files.now) c.in-Apply.name batches.Apply
          c.args.pinned.now.now.state c.args.steps.now c.answer_file-in-Apply.new.steps) e.steps;
    })

pub returns-in-Try : goal.returns-in-Try
returns-in-Try g c =
    let e = c.answer_file-in-Try.ensures in
    rw c.in-Try.is (record {
      stay = e.stay;
      same = e.same;
      memory = memory-wanted c.answer_file-in-Try.result _ refl;
      fault = fault-named c.answer_file-in-Try.result c.in-Try.name
          (Rose (g.F.Files.faults c.args.files.now) (g.F.Files.faults c.answer_file-in-Try.new.files)) e.fault;
      untold = e.untold;
      answered = e.answered;
      steps = on_ok_weaker c.answer_file-in-Try.result
          (file-within (g.F.Files.told c.args.files.now) c.in-Try.name batches.Apply
          c.args.pinned.now.now.state c.args.steps.now c.answer_file-in-Try.new.steps) e.steps;
    })
