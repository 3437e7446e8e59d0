use Rattle.std.proofs.Common.{◌∙◌, ap, length}
use Rattle.aggregates.specs.Views.{agg_in}
use Rattle.cube_defs.specs.Rows.{Agg}
use Rattle.batch_delete.proofs.Totalled.{joined_long}
use Rattle.batch_delete.proofs.subtracting.combined.Goals as goal

pub returns-clause-parts : goal.returns-clause-parts
returns-clause-parts c =
    ap (λ (a : Agg). length a.parts) c.combine.ensures.aggregate
    ∙ joined_long (agg_in c.args.some).parts (agg_in c.args.others).parts c.requires.parts
