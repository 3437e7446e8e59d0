use Rattle.std.proofs.Common.{arith}
use Rattle.batch_delete.proofs.Childs.{cell_wide}
use Rattle.batch_delete.proofs.plan.node_plan_of.Goals as goal

pub heir_at-heir-requires : goal.heir_at-heir-requires
heir_at-heir-requires g c κs within
    = (
      within,
      record {
        tree = c.requires.1.gone.tree;
        cell = c.requires.1.cell;
        long = cell_wide c.args.row.now.arena.now.width c.args.row.now.arena.now.now _ c.requires.1.gone.tree
            c.args.below.now.node.0 c.args.below.now.cell c.requires.1.cell;
        after = c.rest_of-after.ensures.rest;
      },
    )

pub returns-clause-steps : goal.returns-clause-steps
returns-clause-steps g c = λ list are.
    let wide = cell_wide c.args.row.now.arena.now.width c.args.row.now.arena.now.now _ c.requires.1.gone.tree
    c.args.below.now.node.0 c.args.below.now.cell c.requires.1.cell in
    let tuple = c.requires.1.gone.long in
    let first = c.rest_of-after.ensures.steps list are in
    let second = c.heir_at-heir.ensures.steps in
    omega arith
