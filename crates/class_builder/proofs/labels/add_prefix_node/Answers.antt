use Rattle.std.proofs.Common.{◌<◌, [], ◌∷◌, Some, sym, ap, subst, ◌∙◌, arith}
use Rattle.cube_defs.specs.Cell.{cell_prefix}
use Rattle.cube_defs.specs.Tree.{cell_at}
use Rattle.base_table.specs.Places.{rows_of}
use Rattle.build_trace.specs.Trace.{Act.{Add, Label}}
use Rattle.class_builder.specs.Building.{PerformsActs, ActsComeNext}
use Rattle.class_builder.proofs.Prefixes.{prefix_value}
use Rattle.class_builder.proofs.Building.{err_again, prefix_depth, on_end, path_on, path_stays}
use Rattle.class_builder.proofs.Notes.{noted_stay}
use Rattle.class_builder.proofs.Standing.{on_change, part_long}
use Rattle.class_builder.proofs.labels.add_prefix_node.Goals as goal

pub at-requires : goal.at-requires
at-requires g c = omega (arith, c.requires.stands.below, c.args.part.now.is.table.few_dims)

pub add_child-requires-clause-change : goal.add_child-requires-clause-change
add_child-requires-clause-change g c
    = on_change c.args.builder.now.arena.now c.at.result.0 (cell_prefix c.args.dim c.args.part.now.shared.now)
    (on_end c.args.builder.now.arena.now c.args.path.now c.args.part.now.shared.now c.args.dim c.at.result.0
    c.requires.stands.at.path c.at.ensures) c.requires.stands.at.next.going.opened c.requires.stands.at.next.going.touched

pub add_child-requires-clause-dim : goal.add_child-requires-clause-dim
add_child-requires-clause-dim g c = subst (λ n. c.args.dim < n) (sym c.requires.stands.at.width) c.requires.stands.below

pub add_child-requires-clause-behind : goal.add_child-requires-clause-behind
add_child-requires-clause-behind g c
    = prefix_depth c.args.builder.now.arena.now.now c.at.result.0 c.args.dim c.args.part.now.shared.now
    (on_end c.args.builder.now.arena.now c.args.path.now c.args.part.now.shared.now c.args.dim c.at.result.0
    c.requires.stands.at.path c.at.ensures)

pub returns-in-Ok-clause-done : goal.returns-in-Ok-clause-done
returns-in-Ok-clause-done g c =
    let on = on_end c.args.builder.now.arena.now c.args.path.now c.args.part.now.shared.now c.args.dim c.at.result.0
    c.requires.stands.at.path c.at.ensures in
    let front = prefix_value c.args.dim c.args.edge.code c.args.part.now.shared.now c.requires.value in
    record {
      does = subst (λ p. PerformsActs c.args.part.now.table.now.measures (rows_of c.args.part.now.table.now)
          (Add p ∷ Label c.args.edge.is_forced (cell_prefix c.args.dim c.args.part.now.shared.now) c.args.dim
          c.args.edge.code p ∷ []) c.args.builder.now.arena.now c.add_child.new.arena)
          (sym front) (c.in-Ok.ensures.made c.args.part.now.table.now.measures (rows_of c.args.part.now.table.now)
          (cell_prefix c.args.dim c.args.part.now.shared.now) on);
      fronts = c.note.ensures c.add_child.new.arena
          (noted_stay c.args.part.now.table.now c.args.builder.now.arena.now c.add_child.new.arena
          c.args.builder.now.fronts.now
          (c.in-Ok.ensures.made 0 [] (cell_prefix c.args.dim c.args.part.now.shared.now) on).cells
          c.requires.stands.at.fronts)
          (c.in-Ok.ensures.here (cell_prefix c.args.dim c.args.part.now.shared.now) on ∙ ap (λ p. Some p) (sym front));
    }

pub returns-in-Ok-clause-path : goal.returns-in-Ok-clause-path
returns-in-Ok-clause-path g c =
    let on = on_end c.args.builder.now.arena.now c.args.path.now c.args.part.now.shared.now c.args.dim c.at.result.0
    c.requires.stands.at.path c.at.ensures in
    path_on c.add_child.new.arena c.args.path.now c.set.new.self c.args.part.now.shared.now c.args.dim
    (path_stays c.args.builder.now.arena.now c.add_child.new.arena c.args.path.now c.args.part.now.shared.now c.args.dim
    (c.in-Ok.ensures.made 0 [] (cell_prefix c.args.dim c.args.part.now.shared.now) on).cells c.requires.stands.at.path)
    c.set.ensures.others
    (ap (λ n. cell_at c.add_child.new.arena.now n) c.set.ensures.here
    ∙ c.in-Ok.ensures.here (cell_prefix c.args.dim c.args.part.now.shared.now) on
    ∙ ap (λ p. Some p) (sym (prefix_value c.args.dim c.args.edge.code c.args.part.now.shared.now c.requires.value)))

pub returns-in-Err-clause-full : goal.returns-in-Err-clause-full
returns-in-Err-clause-full g c = λ e.
    c.in-Err.ensures.full (err_again c.in-Err.error _ e) c.args.part.now.table.now.measures
    (rows_of c.args.part.now.table.now) (cell_prefix c.args.dim c.args.part.now.shared.now)
    (on_end c.args.builder.now.arena.now c.args.path.now c.args.part.now.shared.now c.args.dim c.at.result.0
    c.requires.stands.at.path c.at.ensures)
    (subst (λ p. ActsComeNext c.args.part.now.table.now.measures (rows_of c.args.part.now.table.now)
    (Add p ∷ Label c.args.edge.is_forced (cell_prefix c.args.dim c.args.part.now.shared.now) c.args.dim c.args.edge.code
    p ∷ []) c.args.builder.now.arena.now)
    (prefix_value c.args.dim c.args.edge.code c.args.part.now.shared.now c.requires.value) c.requires.stands.at.next)

pub note-requires-clause-dim : goal.note-requires-clause-dim
note-requires-clause-dim g c
    = subst (λ n. c.args.dim < n)
    (sym (part_long c.args.part.now.table.now c.args.part.now.rows.now c.args.part.now.shared.now c.args.part.now.is))
    c.requires.stands.below

pub note-requires-clause-dims : goal.note-requires-clause-dims
note-requires-clause-dims g c = c.requires.stands.at.fronts.dims
    ∙ sym (part_long c.args.part.now.table.now c.args.part.now.rows.now c.args.part.now.shared.now c.args.part.now.is)
