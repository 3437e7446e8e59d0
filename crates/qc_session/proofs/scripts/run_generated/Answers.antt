use Rattle.std.proofs.Common.{◌∙◌, List, Some, ap, refl, take, ℕ}
use Rattle.qc_io.specs.Outside.{with_taken}
use Rattle.qc_session.proofs.Ends.{by-end, by-write}
use Rattle.qc_session.proofs.scripts.run_generated.Goals as goal

pub returns-in-Ok-write_all-clause-ends : goal.returns-in-Ok-write_all-clause-ends
returns-in-Ok-write_all-clause-ends g c = record {
  skipped = c.generated_outcome.ensures.skipped;
  by = by-end c.generated_outcome.ensures.status (
    tt,
    c.in-Ok-write_all.ensures.all ∙ ap (λ (bytes : List ℕ). with_taken bytes (g.O.Sink.taken c.args.out.now))
        (c.deref.ensures.value ∙ c.in-Ok.ensures.text),
    c.generated_outcome.ensures.end ∙ ap Some c.in-Ok.ensures.state,
    refl,
  );
}

pub returns-clause-ends : goal.returns-clause-ends
returns-clause-ends g c = record {
  skipped = c.fail-in-Err.ensures.skipped;
  by = by-write c.fail-in-Err.ensures.status (
    tt,
    c.in-Err.ensures.cause.failed,
    (
      c.in-Err.field-0.written,
      c.in-Err.ensures.part ∙ ap (λ (bytes : List ℕ). with_taken (take c.in-Err.field-0.written bytes)
          (g.O.Sink.taken c.args.out.now)) (c.deref.ensures.value ∙ c.in-Ok.ensures.text),
    ),
    c.fail-in-Err.ensures.said,
  );
}
