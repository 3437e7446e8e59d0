use Rattle.std.proofs.Common.{◌≤◌, ◌+◌, ◌∙◌, ℕ, List, ap, length, subst, sym, take, rules}
use Rattle.std.proofs.lemmas.List.{length-map}
use Rattle.std.specs.Prelude.{IfSome}
use Rattle.cube_defs.specs.Tree.{Tree}
use Rattle.base_table.specs.Places.{rows_of}
use Rattle.cube_defs.specs.Text.{Text}
use Rattle.measure_index.specs.Rankings.{Ranking}
use Rattle.qc_arena.specs.Map.{Arena}
use Rattle.warehouse.specs.Changing.{AreAsBefore, state_in}
use Rattle.warehouse.specs.Loading.{IsLoad, cost_of_tree}
use Rattle.warehouse.specs.State.{Contents, IsIndexed}
use Rattle.warehouse.specs.Steps.{IsCause}
use Rattle.warehouse.specs.Stored.{IsTreeOfSome, refusal_in}
use Rattle.warehouse.specs.declared.cube.Cube.{Cube}
use Rattle.warehouse.proofs.Batches.{kept-gives, kept-in-place, kept-parts, taken-back}
use Rattle.warehouse.proofs.Causes.{refused-so}
use Rattle.warehouse.proofs.Images.{over-begun}
use Rattle.warehouse.proofs.changing.make_changes.Goals as goal

pub returns-in-Err-clause-gives : goal.returns-in-Err-clause-gives
returns-in-Err-clause-gives g c =
    let old = state_in c.args.schema.now c.args.cube.now in
    refused-so old c.args.batch.changes (refusal_in c.in-Err.refused) (c.in-Err.ensures.cause old)

pub change_and_index-requires-clause-fit : goal.change_and_index-requires-clause-fit
change_and_index-requires-clause-fit g c
    = record {
      dims = c.requires.dims;
      measures = c.requires.measures;
      once = c.in-Ok.ensures.once;
      valid
          = c.len-records.ensures.valid;
    }

pub change_and_index-requires-clause-before : goal.change_and_index-requires-clause-before
change_and_index-requires-clause-before g c =
    subst (λ (cube : Cube). IfSome cube.tree.was (λ before. IsTreeOfSome c.args.schema.now before.tree
    × IsIndexed c.args.schema.now before.tree c.args.index.now)) (sym c.begin-lens.ensures.opened)
    ((rows_of c.args.cube.now.table, c.requires.parts.kept.from), c.requires.parts.indexed)

pub returns-in-Ok-change_and_index-clause-parts : goal.returns-in-Ok-change_and_index-clause-parts
returns-in-Ok-change_and_index-clause-parts g c =
    kept-parts c.args.schema.now c.args.cube.now c.begin-lens.new.self c.change_and_index.new.cube
    c.requires.parts.stored c.requires.parts.kept c.begin-lens.ensures.opened c.change_and_index.ensures.frames
    c.args.batch c.len-records.ensures.valid c.in-Ok-change_and_index.ensures.made c.commit.new.self c.commit.ensures
    c.change_and_index.new.index c.in-Ok-change_and_index.ensures.indexed

pub returns-in-Ok-change_and_index-clause-gives : goal.returns-in-Ok-change_and_index-clause-gives
returns-in-Ok-change_and_index-clause-gives g c =
    kept-gives c.args.schema.now c.args.cube.now c.begin-lens.new.self c.change_and_index.new.cube
    c.requires.parts.stored c.requires.parts.kept c.begin-lens.ensures.opened c.change_and_index.ensures.frames
    c.args.batch c.len-records.ensures.valid c.in-Ok-change_and_index.ensures.made c.commit.new.self c.commit.ensures
    c.change_and_index.new.index c.len-records.result c.class_count-classes.result
    (returns-in-Ok-change_and_index-clause-parts g c) c.len-records.ensures.count c.class_count-classes.ensures

pub returns-in-Ok-change_and_index-clause-in_place : goal.returns-in-Ok-change_and_index-clause-in_place
returns-in-Ok-change_and_index-clause-in_place g c = λ in_place.
    kept-in-place c.args.schema.now c.args.cube.now c.begin-lens.new.self c.change_and_index.new.cube
    c.requires.parts.stored c.requires.parts.kept c.begin-lens.ensures.opened c.change_and_index.ensures.frames
    c.args.batch.changes c.commit.new.self c.args.steps.now c.change_and_index.new.steps c.commit.ensures
    (c.in-Ok-change_and_index.ensures.in_place in_place)

pub returns-in-Ok-change_and_index-clause-images : goal.returns-in-Ok-change_and_index-clause-images
returns-in-Ok-change_and_index-clause-images g c =
    over-begun c.args.cube.now.tree c.begin-lens.new.self.tree c.change_and_index.new.cube.tree
    c.commit.new.self.tree.last c.commit.new.self.tree.now
    (ap (λ (cube : Cube). cube.tree) c.begin-lens.ensures.opened) c.change_and_index.ensures.frames.of_tree
    c.commit.ensures.images

pub returns-in-Err-change_and_index : goal.returns-in-Err-change_and_index
returns-in-Err-change_and_index g c =
    let changes = c.args.batch.changes in
    let same_index = c.in-Err-change_and_index.ensures.same_index in
    let back : AreAsBefore c.args.schema.now c.args.cube.now c.roll_back.new.self =
    taken-back c.args.schema.now c.args.cube.now c.begin-lens.new.self c.change_and_index.new.cube
    c.requires.parts.stored c.requires.parts.kept c.begin-lens.ensures.opened c.change_and_index.ensures.frames
    c.roll_back.new.self (take c.from.result c.begin-lens.result)
    (ap (λ (n : ℕ). take n c.begin-lens.result) (c.from.ensures ∙ c.dims.ensures.count)
    ∙ c.begin-lens.ensures.lens) c.roll_back.ensures in
    let images = back.images ∙ sym c.requires.images in
    record {
      parts = record {
        stored = back.stored;
        kept = back.kept;
        indexed =
            subst (λ (index : List Ranking). IsIndexed c.args.schema.now c.roll_back.new.self.tree.now index)
            (sym same_index)
            (subst (λ (t : Tree ℕ). IsIndexed c.args.schema.now t c.args.index.now)
            (sym back.same_tree) c.requires.parts.indexed);
      };
      gives =
          refused-so (state_in c.args.schema.now c.args.cube.now) changes (refusal_in c.in-Err-change_and_index.refused)
          (subst (λ (cube : Cube). IsCause c.in-Err-change_and_index.refused (state_in c.args.schema.now cube) changes)
          c.begin-lens.ensures.opened c.in-Err-change_and_index.ensures.cause);
      same = λ j. let held : Contents = record {
        state = back.same_state j;
        tree = back.same_tree j;
        index = same_index j;
        images = images j;
      } in held;
      in_place = search rules;
      loaded = search rules;
      images = search rules;
    }

pub returns-in-Ok-change_and_index-clause-loaded : goal.returns-in-Ok-change_and_index-clause-loaded
returns-in-Ok-change_and_index-clause-loaded g c = λ load.
    let begun = subst (λ (cube : Cube). IsLoad c.args.building (state_in c.args.schema.now cube) c.args.batch.changes)
    (sym c.begin-lens.ensures.opened) load in
    subst (λ (t : Tree ℕ). c.change_and_index.new.steps ≤ c.args.steps.now
    + cost_of_tree (length c.args.schema.now.dims) t) (sym (ap (λ (a : Arena). a.now) c.commit.ensures.of_tree))
    (c.in-Ok-change_and_index.ensures.loaded begun)

pub roll_back-requires-clause-lens : goal.roll_back-requires-clause-lens
roll_back-requires-clause-lens g c =
    ap (λ (ns : List ℕ). length ns) (ap (λ (n : ℕ). take n c.begin-lens.result) (c.from.ensures ∙ c.dims.ensures.count)
    ∙ c.begin-lens.ensures.lens)
    ∙ length-map c.args.cube.now.dict.lists (λ (texts : List Text). length texts)
    ∙ ap (λ (cube : Cube). length cube.dict.lists) (sym c.begin-lens.ensures.opened)
    ∙ sym c.change_and_index.ensures.frames.longer.dims
