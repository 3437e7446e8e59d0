use Rattle.std.proofs.Common.{inl, inr}
use Rattle.std.proofs.lemmas.Result.{IfErr-weaker, IfOk-weaker}
use Rattle.qc_session.specs.Failures.{cause_of}
use Rattle.qc_session.specs.Words.{names_in}
use Rattle.qc_session.proofs.Ended.{rose-later}
use Rattle.qc_session.proofs.Taken.{stay-then}
use Rattle.qc_session.proofs.Refusals.{first-not-begun, script-not-begun}
use Rattle.qc_session.proofs.scripts.read_files.Goals as goal

pub returns : goal.returns
returns g c = record {
  stay = c.in-Err.ensures.stay;
  start = tt;
  script = tt;
  open_file = inl c.in-Err.ensures.open_file;
  err = first-not-begun (g.F.Files.told c.args.files.now) (names_in c.args.names) _ _
      (cause_of c.in-Err.failure) c.in-Err.ensures.err;
}

pub returns-in-Ok : goal.returns-in-Ok
returns-in-Ok g c =
    let told = g.F.Files.told c.args.files.now in
    let stay = c.in-Ok.ensures.stay in
    record {
      stay = stay-then stay c.read_script.ensures.stay;
      start = IfOk-weaker c.read_script.result _ _ (λ loaded kept. rw kept c.in-Ok.ensures.ok)
          c.read_script.ensures.kept;
      script = rw stay.told at c.read_script.ensures.ok;
      open_file = inr (rw stay.told at c.read_script.ensures.open_file);
      err = IfErr-weaker c.read_script.result _ _
          (λ f h. script-not-begun told (names_in c.args.names) _ _ _ _ _ (cause_of f) c.in-Ok.ensures.ok stay.steady
          (rose-later _ _ _ stay.later) h)
          (rw stay.told at c.read_script.ensures.err);
    }
