use Rattle.std.proofs.Common.{Err, List, Ok, Result, ap, subst, sym, true≢false, ◌+◌, ◌∙◌, ◌≡◌, ◌≤◌}
use Rattle.std.specs.Prelude.{IfSome, IsErr, OnOk}
use Rattle.cell_core.specs.Gives.{Gives}
use Rattle.csv_load.specs.Batch.{Change}
use Rattle.csv_load.specs.Faults.{Fault}
use Rattle.csv_load.specs.Files.{batch_in}
use Rattle.cube_defs.specs.Text.{Text}
use Rattle.warehouse.specs.Batch.{result_of}
use Rattle.warehouse.specs.InPlace.{cost_in}
use Rattle.warehouse.specs.Changing.{state_in}
use Rattle.warehouse.specs.State.{Contents, State}
use Rattle.warehouse.specs.Stored.{applied_in, refusal_in}
use Rattle.warehouse.proofs.TreeInsertions.{of-batch}
use Rattle.warehouse.proofs.store.Warehouse.attempt.Goals as goal

pub returns-in-Err-clause-gives : goal.returns-in-Err-clause-gives
returns-in-Err-clause-gives g c =
    let inside = c.self.inside in
    let old = state_in inside.schema inside.cube in
    let state = ap (λ (w : Contents). w.state) (c.self.view_is ∙ c.drop_images.ensures.rest) in (
      old,
      subst (λ (s : State). IfSome (refusal_in c.refused_file.result)
          (λ refusal. result_of s (batch_in s.schema c.args.bytes.now) ≡ Err refusal)) state
          (c.refused_file.ensures old (batch_in inside.schema c.args.bytes.now) c.in-Err.ensures.gives),
    )

pub returns-in-Ok : goal.returns-in-Ok
returns-in-Ok g c =
    let was = c.args.self.now.state in
    let made = c.attempt_changes.result in
    let rest = c.drop_images.ensures.rest in
    let bytes = c.args.bytes.now in
    let changes = c.in-Ok.batch.changes in
    let read : batch_in was.schema bytes ≡ Ok changes
    = subst (λ (s : State). batch_in s.schema bytes ≡ Ok changes) (ap (λ (w : Contents). w.state) (c.self.view_is ∙ rest))
    c.in-Ok.ensures.gives in
    record {
      gives =
          subst (λ (r : Result (List (Change Text)) Fault). (after : State)
          × Gives refusal_in (applied_in after) made (result_of was r)) (sym read)
          (subst (λ (s : State). (after : State) × Gives refusal_in (applied_in after) made (result_of s (Ok changes)))
          (ap (λ (w : Contents). w.state) rest) c.attempt_changes.ensures.gives);
      steps = of-batch made was.schema bytes changes
          (λ xs. c.attempt_changes.new.steps ≤ c.args.steps.now + cost_in was xs) read
          (subst (λ (w : Contents). OnOk made (c.attempt_changes.new.steps ≤ c.args.steps.now + cost_in w.state changes))
          rest c.attempt_changes.ensures.steps);
      unread = λ h. absurd (true≢false (sym (subst IsErr read h)));
      same = c.attempt_changes.ensures.same ∙ rest;
      valid = c.attempt_changes.ensures.valid;
    }
