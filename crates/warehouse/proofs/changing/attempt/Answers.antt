use Rattle.std.proofs.Common.{◌≤◌, ◌+◌, ◌∙◌, ℕ, List, ap, length, refl, subst, sym, take}
use Rattle.std.proofs.lemmas.List.{length-map}
use Rattle.cube_defs.specs.Text.{Text}
use Rattle.warehouse.specs.Batch.{after}
use Rattle.warehouse.specs.Changing.{state_in}
use Rattle.warehouse.specs.InPlace.{cost_in}
use Rattle.warehouse.specs.Steps.{IsCause}
use Rattle.warehouse.specs.Stored.{refusal_in}
use Rattle.warehouse.specs.declared.cube.Cube.{Cube}
use Rattle.warehouse.proofs.Batches.{made-gives, taken-back}
use Rattle.warehouse.proofs.Causes.{refused-so}
use Rattle.warehouse.proofs.changing.attempt.Goals as goal

pub returns-in-Err-clause-gives : goal.returns-in-Err-clause-gives
returns-in-Err-clause-gives g c =
    let old = state_in c.args.schema.now c.args.cube.now in
    (old, refused-so old c.args.batch.changes (refusal_in c.in-Err.refused) (c.in-Err.ensures.cause old))

pub returns-in-Ok-built : goal.returns-in-Ok-built
returns-in-Ok-built g c =
    let built = c.change_and_build-built in
    record {
      gives = (
        after (state_in c.args.schema.now c.args.cube.now) c.args.batch.changes,
        made-gives c.args.schema.now c.args.cube.now c.begin-lens.new.self built.new.cube c.requires.stored
            c.requires.kept c.begin-lens.ensures.opened built.ensures.frames
            c.args.batch c.len-records.ensures.valid c.in-Ok-built.ensures.made c.len-records.result
            c.class_count-classes.result c.recall_invariant.ensures c.len-records.ensures.count
            c.class_count-classes.ensures,
      );
      steps = subst (λ (cube : Cube). c.change_and_build-built.new.steps ≤ c.args.steps.now
          + cost_in (state_in c.args.schema.now cube) c.args.batch.changes) c.begin-lens.ensures.opened
          (c.in-Ok-built.ensures.in_place refl).steps;
      back = taken-back c.args.schema.now c.args.cube.now c.begin-lens.new.self built.new.cube c.requires.stored c.requires.kept
          c.begin-lens.ensures.opened built.ensures.frames
          c.roll_back.new.self (take c.from-dims.result c.begin-lens.result)
          (ap (λ (n : ℕ). take n c.begin-lens.result) (c.from-dims.ensures ∙ c.dims.ensures.count)
          ∙ c.begin-lens.ensures.lens) c.roll_back.ensures;
    }

pub returns-in-Err-built-clause-gives : goal.returns-in-Err-built-clause-gives
returns-in-Err-built-clause-gives g c =
    let old = state_in c.args.schema.now c.args.cube.now in (
      old,
      refused-so old c.args.batch.changes (refusal_in c.in-Err-built.refused)
          (subst (λ (cube : Cube). IsCause c.in-Err-built.refused
          (state_in c.args.schema.now cube) c.args.batch.changes) c.begin-lens.ensures.opened
          c.in-Err-built.ensures.cause),
    )

pub returns-in-Err-built-clause-back : goal.returns-in-Err-built-clause-back
returns-in-Err-built-clause-back g c =
    let built = c.change_and_build-built in
    taken-back c.args.schema.now c.args.cube.now c.begin-lens.new.self built.new.cube c.requires.stored c.requires.kept
    c.begin-lens.ensures.opened built.ensures.frames
    c.roll_back.new.self (take c.from-dims.result c.begin-lens.result)
    (ap (λ (n : ℕ). take n c.begin-lens.result) (c.from-dims.ensures ∙ c.dims.ensures.count)
    ∙ c.begin-lens.ensures.lens) c.roll_back.ensures

pub roll_back-requires-clause-lens : goal.roll_back-requires-clause-lens
roll_back-requires-clause-lens g c =
    ap (λ (ns : List ℕ). length ns) (ap (λ (n : ℕ). take n c.begin-lens.result)
    (c.from-dims.ensures ∙ c.dims.ensures.count) ∙ c.begin-lens.ensures.lens)
    ∙ length-map c.args.cube.now.dict.lists (λ (texts : List Text). length texts)
    ∙ ap (λ (cube : Cube). length cube.dict.lists) (sym c.begin-lens.ensures.opened)
    ∙ sym c.change_and_build-built.ensures.frames.longer.dims
