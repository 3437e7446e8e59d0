use Rattle.std.proofs.Common.{◌∙◌}
use Rattle.batch_delete.proofs.WithoutRow.{class_agg}
use Rattle.batch_delete.proofs.deleted_row.class_at_node.Goals as goal

pub returns-clause-class : goal.returns-clause-class
returns-clause-class g c =
    let a = c.args.row.now.arena.now in
    let class = c.requires.1.class in
    record {
      gone = c.requires.1.gone;
      is = class.class;
      long = class.long;
      whole = c.class.ensures.value
          ∙ class_agg a.width a.now g.d class.tree c.args.below.now.cell class.long c.args.below.now.node.0 class.node
          class.class.own;
    }
