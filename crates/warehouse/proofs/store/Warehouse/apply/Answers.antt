use Rattle.std.proofs.Common.{Err, List, Ok, Result, ap, refl, subst, sym, true≢false, ◌+◌, ◌++◌, ◌∙◌, ◌≡◌, ◌≤◌}
use Rattle.std.specs.Prelude.{IfSome, IsErr, OnOk}
use Rattle.cell_core.specs.Gives.{Gives}
use Rattle.csv_load.specs.Batch.{Change, deleted, inserted}
use Rattle.csv_load.specs.Faults.{Fault}
use Rattle.csv_load.specs.Files.{batch_in}
use Rattle.cube_defs.specs.Text.{Text}
use Rattle.warehouse.specs.Batch.{result_of}
use Rattle.warehouse.specs.declared.changing.Building.TheVariants.{InPlace}
use Rattle.warehouse.specs.InPlace.{KeepsOtherRecords, KeepsNodes, TouchesNoOthers, cost_in, gone, has_image, kept, with_codes}
use Rattle.warehouse.specs.State.{Contents, State}
use Rattle.warehouse.specs.Changing.{IsInPlace, state_in}
use Rattle.warehouse.proofs.Deletions.{ok-then}
use Rattle.warehouse.proofs.Images.{err-same, over-none}
use Rattle.warehouse.proofs.TreeInsertions.{of-batch}
use Rattle.warehouse.specs.Stored.{applied_in, refusal_in}
use Rattle.warehouse.proofs.store.Warehouse.apply.Goals as goal

pub returns-in-Err-clause-gives : goal.returns-in-Err-clause-gives
returns-in-Err-clause-gives g c =
    let inside = c.self.inside in
    let state = ap (λ (w : Contents). w.state) (c.self.view_is ∙ c.drop_images.ensures.rest) in
    subst (λ (s : State). IfSome (refusal_in c.refused_file.result)
    (λ refusal. result_of s (batch_in s.schema c.args.bytes.now) ≡ Err refusal)) state
    (c.refused_file.ensures (state_in inside.schema inside.cube) (batch_in inside.schema c.args.bytes.now)
    c.in-Err.ensures.gives)

pub returns-in-Err-clause-images : goal.returns-in-Err-clause-images
returns-in-Err-clause-images g c = rw (c.drop_images.ensures.rest) (over-none c.args.self.now.tree)

pub returns-in-Ok : goal.returns-in-Ok
returns-in-Ok g c =
    let was = c.args.self.now in
    let now = c.make_changes.new.self in
    let made = c.make_changes.result in
    let rest = c.drop_images.ensures.rest in
    let same = c.make_changes.ensures.same in
    let bytes = c.args.bytes.now in
    let changes = c.in-Ok.batch.changes in
    let lists = now.state.texts in
    let read : batch_in was.state.schema bytes ≡ Ok changes
    = subst (λ (s : State). batch_in s.schema bytes ≡ Ok changes) (ap (λ (w : Contents). w.state) (c.self.view_is ∙ rest))
    c.in-Ok.ensures.gives in
    let in_place = λ (Fact : Type 0) (fact : IsInPlace was.state changes lists was.tree now.tree (has_image now.images)
    c.args.steps.now c.make_changes.new.steps → Fact).
    ok-then made (λ (is : InPlace ≡ InPlace → IsInPlace was.state changes lists was.tree now.tree (has_image now.images)
    c.args.steps.now c.make_changes.new.steps). fact (is refl))
    (subst (λ (w : Contents). OnOk made (InPlace ≡ InPlace → IsInPlace w.state changes lists w.tree now.tree
    (has_image now.images) c.args.steps.now c.make_changes.new.steps)) rest c.make_changes.ensures.in_place) in
    record {
      gives =
          subst (λ (r : Result (List (Change Text)) Fault). Gives refusal_in (applied_in now.state) made
          (result_of was.state r)) (sym read)
          (subst (λ (s : State). Gives refusal_in (applied_in now.state) made (result_of s (Ok changes)))
          (ap (λ (w : Contents). w.state) rest) c.make_changes.ensures.gives);
      numbers = of-batch made was.state.schema bytes changes
          (λ xs. KeepsNodes (with_codes lists (kept (deleted xs) was.state.rows)) was.tree now.tree) read
          (in_place _ (λ is. is.numbers));
      apart = of-batch made was.state.schema bytes changes
          (λ xs. KeepsOtherRecords (with_codes lists (gone (deleted xs) was.state.rows ++ inserted xs)) was.tree now.tree)
          read (in_place _ (λ is. is.apart));
      touches = of-batch made was.state.schema bytes changes
          (λ xs. TouchesNoOthers (with_codes lists (gone (deleted xs) was.state.rows ++ inserted xs)) was.tree now.tree
          (has_image now.images)) read (in_place _ (λ is. is.touches));
      steps = of-batch made was.state.schema bytes changes
          (λ xs. c.make_changes.new.steps ≤ c.args.steps.now + cost_in was.state xs) read (in_place _ (λ is. is.steps));
      unread = λ h. absurd (true≢false (sym (subst IsErr read h)));
      valid = c.make_changes.ensures.valid;
      state = err-same made (λ (w : Contents). w.state) _ _ _ rest same;
      tree = err-same made (λ (w : Contents). w.tree) _ _ _ rest same;
      index = err-same made (λ (w : Contents). w.index) _ _ _ rest same;
      images = c.make_changes.ensures.images ∙ ap (λ (w : Contents). w.tree) rest;
      no_images = err-same made (λ (w : Contents). w.images) _ _ _ rest same;
    }
