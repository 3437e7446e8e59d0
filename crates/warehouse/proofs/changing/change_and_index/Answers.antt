use Rattle.std.proofs.Common.{Option, arith, ◌∙◌, ℕ, ap, subst, sym}
use Rattle.std.specs.Prelude.{IfSome}
use Rattle.base_table.specs.Places.{Places, rows_of}
use Rattle.qc_arena.specs.Codes.{Shape}
use Rattle.qc_arena.specs.Map.{Arena, is_touched}
use Rattle.warehouse.specs.Changing.{IsInPlace, state_in}
use Rattle.warehouse.specs.State.{IsIndexed}
use Rattle.warehouse.specs.Stored.{IsTreeOfSome}
use Rattle.warehouse.proofs.Trees.{tree-from}
use Rattle.warehouse.proofs.changing.change_and_index.Goals as goal

pub make_index-requires-clause-now : goal.make_index-requires-clause-now
make_index-requires-clause-now g c =
    let table = c.change_and_build.new.cube.table in
    let frame = c.change_and_build.ensures.frames.of_table in (
      rows_of table,
      tree-from c.args.schema.now table c.change_and_build.new.cube.tree.now c.recall_invariant.ensures
          (ap (λ (t : Places). t.dims) frame ∙ c.requires.begun.stored.dims)
          (ap (λ (t : Places). t.measures) frame ∙ c.requires.begun.stored.measures) c.in-Ok.ensures.made.canonical,
    )

pub make_index-requires-clause-before : goal.make_index-requires-clause-before
make_index-requires-clause-before g c =
    subst (λ (o : Option Shape). IfSome o (λ before. IsTreeOfSome c.args.schema.now before.tree
    × IsIndexed c.args.schema.now before.tree c.args.index.now))
    (sym (ap (λ (a : Arena). a.was) c.change_and_build.ensures.frames.of_tree)) c.requires.before

pub returns-in-Ok-make_index-clause-loaded : goal.returns-in-Ok-make_index-clause-loaded
returns-in-Ok-make_index-clause-loaded g c = λ load.
    let built = c.in-Ok.ensures.loaded load in
    let indexed = c.make_index.ensures.scratch load.scratch in
    omega (arith, built, indexed)

pub returns-in-Ok-make_index-clause-in_place : goal.returns-in-Ok-make_index-clause-in_place
returns-in-Ok-make_index-clause-in_place g c = λ in_place.
    let old = c.args.cube.now in
    let built = c.change_and_build.new.cube in
    subst (λ (to : ℕ). IsInPlace (state_in c.args.schema.now old) c.args.batch.changes built.dict.lists old.tree.now
    built.tree.now (is_touched built.tree) c.args.steps.now to) (sym (c.make_index.ensures.steps in_place))
    (c.in-Ok.ensures.in_place in_place)
