use Rattle.std.proofs.Common.{◌≡◌, ◌∙◌, ◌+◌, ◌*◌, ap, ap₂, arith, refl, subst, sym}
use Rattle.row_generator.specs.Generator.{after_rows, batch_rows, batch_text}
use Rattle.row_generator.specs.declared.files.TheConstants.{BATCHES}
use Rattle.warehouse.specs.Batch.{Apply}
use Rattle.generated_run.specs.Generated.{IsTaken, file_taken, state_before}
use Rattle.generated_run.proofs.Accepted.{draws-then}
use Rattle.generated_run.proofs.files.apply_batches.Goals as goal

pub batches-init : goal.batches-init
batches-init g c =
    let none : c.args.rows ≡ c.args.rows + 0 * batch_rows c.args.rows = omega arith in
    record { draws = c.requires.draws ∙ ap (λ n. after_rows n c.args.seed) none; state = c.requires.state }

pub apply_batch-requires-clause-taken : goal.apply_batch-requires-clause-taken
apply_batch-requires-clause-taken g c =
    subst (λ s. IsTaken s Apply (batch_text c.args.rows c.batches.before c.batches.draws.state))
    (sym c.batches.invariant.state)
    (subst (λ d. IsTaken (state_before c.args.rows c.args.seed c.batches.before) Apply
    (batch_text c.args.rows c.batches.before d)) (sym c.batches.invariant.draws)
    (c.no_generated_file_is_refused.ensures.batches c.args.rows c.args.seed c.batches.before c.requires.rows
    c.batches-test.true))

pub batches-preserved : goal.batches-preserved
batches-preserved g c =
    let k = batch_rows c.args.rows in
    let before = c.batches.before in
    record {
      draws = c.in_ok-apply_batch.ensures.draws ∙ ap (after_rows k) c.batches.invariant.draws
          ∙ draws-then (c.args.rows + before * k) k (c.args.rows + (before + 1) * k) c.args.seed (omega arith);
      state = c.in_ok-apply_batch.ensures.state
          ∙ ap₂ (λ s d. file_taken s Apply (batch_text c.args.rows before d)) c.batches.invariant.state
          c.batches.invariant.draws
          ∙ sym (c.no_generated_file_is_refused.ensures.next c.args.rows c.args.seed before);
    }

pub returns : goal.returns
returns g c =
    let most : BATCHES ≡ 40 = refl in
    let all : c.batches.before ≡ BATCHES = omega (arith, most, c.batches-test.false) in
    c.batches.invariant.state ∙ ap (state_before c.args.rows c.args.seed) all
