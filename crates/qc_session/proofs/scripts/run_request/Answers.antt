use Rattle.std.proofs.Common.{refl}
use Rattle.qc_session.proofs.Ran.{ran-gen, ran-pack, ran-run, ran-usage}
use Rattle.qc_session.proofs.scripts.run_request.Goals as goal

pub returns-in-Run : goal.returns-in-Run
returns-in-Run g c = rw (← c.in-Run.ensures.form) (record {
  ran = ran-run c.run_files.ensures.ends c.run_files.ensures.hands;
  steps = c.run_files.ensures.steps;
})

pub returns-in-Pack : goal.returns-in-Pack
returns-in-Pack g c = rw (← c.in-Pack.ensures.form) (record {
  ran = ran-pack c.pack_files.ensures.ends c.pack_files.ensures.hands;
  steps = λ e. tt;
})

pub returns-in-Gen : goal.returns-in-Gen
returns-in-Gen g c = rw (← c.in-Gen.ensures.form) (record {
  ran = ran-gen refl c.run_generated.ensures.ends c.run_generated.ensures.hands;
  steps = λ e. tt;
})

pub returns-in-Invalid : goal.returns-in-Invalid
returns-in-Invalid g c = rw (← c.in-Invalid.ensures.form) (record {
  ran = ran-usage refl refl c.fail.ensures.status c.fail.ensures.skipped c.fail.ensures.said c.fail.ensures.hands;
  steps = λ e. tt;
})
