use Rattle.std.proofs.Common.{◌∙◌, sym}
use Rattle.qc_session.specs.Failures.{cause_of}
use Rattle.qc_session.proofs.Costs.{within-run}
use Rattle.qc_session.proofs.Ends.{no-end, run-begun, run-unbegun}
use Rattle.qc_session.proofs.scripts.run_files.Goals as goal

pub returns-in-Ok-clause-ends : goal.returns-in-Ok-clause-ends
returns-in-Ok-clause-ends g c
    = run-begun c.in-Ok.ensures.stay c.in-Ok.ensures.start c.in-Ok.ensures.script c.in-Ok.ensures.open_file
    c.run_script.ensures.ends

pub returns-in-Err-clause-ends : goal.returns-in-Err-clause-ends
returns-in-Err-clause-ends g c
    = run-unbegun (cause_of c.in-Err.failure) c.in-Err.ensures.err c.in-Err.ensures.open_file c.fail.ensures.status
    c.fail.ensures.skipped c.fail.ensures.said

pub returns-in-Ok-clause-steps : goal.returns-in-Ok-clause-steps
returns-in-Ok-clause-steps g c = λ e.
    within-run (g.F.Files.told c.args.files.now) _ _ _ _ _ _ c.in-Ok.ensures.start c.in-Ok.ensures.script
    (rw c.in-Ok.ensures.stay.told at (c.run_script.ensures.steps e))

pub returns-in-Err-clause-steps : goal.returns-in-Err-clause-steps
returns-in-Err-clause-steps g c = λ e.
    absurd (no-end _ c.in-Err.ensures.err.known (sym c.fail.ensures.status ∙ e))
