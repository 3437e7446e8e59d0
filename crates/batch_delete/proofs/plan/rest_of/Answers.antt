use Rattle.std.proofs.Common.{◌≡◌, ◌∙◌, ap, arith, length, sym}
use Rattle.std.specs.Option.{option_map}
use Rattle.qc_arena.specs.RecordReaders.{edge_of}
use Rattle.batch_delete.specs.DeletedRow.{IsClassNode}
use Rattle.batch_delete.specs.Plan.{planned_rest_in}
use Rattle.batch_delete.proofs.Childs.{cell_wide}
use Rattle.batch_delete.proofs.PlanningNodes.{covered, forced_rest, part_planned, row_value, unforced}
use Rattle.batch_delete.proofs.plan.rest_of.Goals as goal

pub class_after-requires : goal.class_after-requires
class_after-requires g c κs within =
    let a = c.args.row.now.arena.now in
    let k = c.args.below.now.node.0 in
    let p = c.args.below.now.cell in
    let t = c.args.row.now.tuple.now in
    let tree = c.requires.1.gone.tree in
    let row = c.requires.1.gone in
    let at = c.requires.1.cell in
    let low = c.requires.1.low in
    let class : IsClassNode g.d a c.args.below.now = record {
      tree = tree;
      class = record {
        below = covered a.width a.now g.d tree k p at t row.tuple low;
        own = unforced a.width a.now g.d tree k p at (sym c.forced.ensures.value
            ∙ ap (option_map edge_of) c.in-None.is);
      };
      long = cell_wide a.width a.now _ tree k p at;
      node = at;
    } in (
      within,
      record {
        class = record { gone = row; class = class };
        planned = λ i any v q w has closes there. part_planned a.width a.now g.d tree k p at t row.tuple low
            (planned_rest_in c.args.plan.now.entries) c.requires.1.planned i v q w any
            (row_value t g.d.r.tuple i v row.tuple has) closes there;
      },
    )

pub returns-in-Some-clause-rest : goal.returns-in-Some-clause-rest
returns-in-Some-clause-rest g c =
    let a = c.args.row.now.arena.now in
    let k = c.args.below.now.node.0 in
    let p = c.args.below.now.cell in
    rw (c.copied.ensures ∙ c.planned_rest.ensures) (forced_rest a.width a.now g.d c.requires.1.gone.tree k p c.requires.1.cell
    c.args.row.now.tuple.now
    c.requires.1.gone.tuple c.requires.1.low (planned_rest_in c.args.plan.now.entries) c.requires.1.planned
    (edge_of c.in-Some.forced) (sym c.forced.ensures.value ∙ ap (option_map edge_of) c.in-Some.is))

pub returns-in-None-clause-steps : goal.returns-in-None-clause-steps
returns-in-None-clause-steps g c = λ list are.
    let a = c.args.row.now.arena.now in
    let p = c.args.below.now.cell in
    let wide = cell_wide a.width a.now _ c.requires.1.gone.tree c.args.below.now.node.0 p c.requires.1.cell in
    let long : length p ≡ length c.args.row.now.tuple.now = wide ∙ sym c.requires.1.gone.long in
    let one = c.forced.ensures.steps in
    let took = c.class_after.ensures.steps list are in
    rw (← long) (omega arith)
