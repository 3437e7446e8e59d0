use Rattle.std.proofs.Common.{◌∙◌}
use Rattle.batch_delete.specs.Rests.{rows_before, source_before}
use Rattle.batch_delete.proofs.Resting.{total_agg}
use Rattle.batch_delete.proofs.plan.plan_all.Goals as goal

pub plan_row-requires : goal.plan_row-requires
plan_row-requires g c κs within = (
  within,
  record {
    gone = record {
      tree = c.requires.1.0.tree;
      long = c.requires.1.0.long;
      tuple = c.requires.1.0.tuple;
      all = c.total_at-all.ensures.value (source_before g.d) c.requires.1.0.tree
          ∙ total_agg g.d.measures (rows_before g.d) c.args.tuple.now;
      duplicates = c.requires.1.0.duplicates;
      few = c.requires.1.0.few;
    };
    below = c.requires.1.1;
  },
)
