use Rattle.qc_session.specs.Runs.{state_in}
use Rattle.qc_session.proofs.status.run_to_status.Goals as goal

pub returns : goal.returns
returns g c =
    let e = c.run_with_keys-outcome.ensures in
    record {
      known = e.known;
      usage = e.usage;
      transcript = λ zero. (
        c.run_with_keys-outcome.result.skipped.items,
        state_in c.run_with_keys-outcome.result.end,
        e.transcript zero,
      );
      pack_all = λ zero. (state_in c.run_with_keys-outcome.result.end, e.pack_all zero);
      gen_all = e.gen_all;
      silent = e.silent;
      read_fault = e.read_fault;
      write_fault = e.write_fault;
      refusal = e.refusal;
      complete = e.complete;
      complete_steady = e.complete_steady;
      pack_refusal = e.pack_refusal;
      pack_complete = e.pack_complete;
    }
