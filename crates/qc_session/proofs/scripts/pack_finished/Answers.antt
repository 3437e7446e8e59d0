use Rattle.std.proofs.Common.{◌∙◌, ◌≤◌, Err, List, ap, length, refl, subst, take, ℕ}
use Rattle.cube_defs.specs.declared.limits.TheConstants.{MAX_FILE}
use Rattle.qc_io.specs.Outside.{with_taken}
use Rattle.qc_session.proofs.Ends.{by-end, by-memory, by-refusal, by-write}
use Rattle.qc_session.proofs.scripts.pack_finished.Goals as goal

pub returns-in-Ok-write_all-clause-ends : goal.returns-in-Ok-write_all-clause-ends
returns-in-Ok-write_all-clause-ends g c = record {
  skipped = c.generated_outcome.ensures.skipped;
  by = by-end c.generated_outcome.ensures.status (
    subst (λ (bytes : List ℕ). length bytes ≤ MAX_FILE) c.in-Ok.ensures.bytes c.in-Ok.ensures.fits,
    c.in-Ok-write_all.ensures.all ∙ ap (λ (bytes : List ℕ). with_taken bytes (g.O.Sink.taken c.args.out.now))
        (c.deref.ensures.value ∙ c.in-Ok.ensures.bytes),
    c.generated_outcome.ensures.end,
    refl,
  );
}

pub returns-in-Ok-clause-ends : goal.returns-in-Ok-clause-ends
returns-in-Ok-clause-ends g c = record {
  skipped = c.fail.ensures.skipped;
  by = by-write c.fail.ensures.status (
    subst (λ (bytes : List ℕ). length bytes ≤ MAX_FILE) c.in-Ok.ensures.bytes c.in-Ok.ensures.fits,
    c.in-Err.ensures.cause.failed,
    (
      c.in-Err.field-0.written,
      c.in-Err.ensures.part ∙ ap (λ (bytes : List ℕ). with_taken (take c.in-Err.field-0.written bytes)
          (g.O.Sink.taken c.args.out.now)) (c.deref.ensures.value ∙ c.in-Ok.ensures.bytes),
    ),
    c.fail.ensures.said,
  );
}

pub returns-in-Err-TooLong-clause-ends : goal.returns-in-Err-TooLong-clause-ends
returns-in-Err-TooLong-clause-ends g c = record {
  skipped = c.fail-in-Err-TooLong.ensures.skipped;
  by = by-refusal c.fail-in-Err-TooLong.ensures.status (
    c.in-Err-TooLong.ensures.too_long (ap Err c.in-Err-TooLong.field-0-is),
    refl,
    c.fail-in-Err-TooLong.ensures.said,
  );
}

pub returns-clause-ends : goal.returns-clause-ends
returns-clause-ends g c = record {
  skipped = c.fail-in-Err-Memory.ensures.skipped;
  by = by-memory c.fail-in-Err-Memory.ensures.status (refl, c.fail-in-Err-Memory.ensures.said);
}
