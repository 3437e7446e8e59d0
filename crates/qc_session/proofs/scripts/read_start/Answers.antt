use Rattle.std.proofs.lemmas.Result.{IfErr-weaker, IfOk-weaker}
use Rattle.qc_session.specs.Failures.{cause_of}
use Rattle.qc_session.specs.Words.{names_in}
use Rattle.qc_session.proofs.Started.{first-fails, start-fails, started}
use Rattle.qc_session.proofs.scripts.read_start.Goals as goal

pub returns-in-Ok : goal.returns-in-Ok
returns-in-Ok g c =
    let told = g.F.Files.told c.args.files.now in
    let names = names_in c.args.names in
    let e = c.in-Ok.ensures in
    let begins = rw c.deref.ensures.value at c.initial_state.ensures.begins in
    let none = rw c.deref.ensures.value at c.initial_state.ensures.none in
    record {
      stay = e.stay;
      ok = IfOk-weaker c.initial_state.result _ _
          (λ warehouse h. started told names c.in-Ok.bytes.items warehouse.state e.ok h) begins;
      open_file = e.open_file;
      err = IfErr-weaker c.initial_state.result _ _
          (λ failure h. start-fails told names _ _ c.in-Ok.bytes.items (cause_of failure) e.ok h) none;
    }

pub returns-in-Err : goal.returns-in-Err
returns-in-Err g c =
    let e = c.in-Err.ensures in
    record {
      stay = e.stay;
      ok = tt;
      open_file = e.open_file;
      err
          = first-fails (g.F.Files.told c.args.files.now) (names_in c.args.names) _ _ (cause_of c.in-Err.failure) e.err;
    }
