use Rattle.std.proofs.Common.{◌+◌, List, ap, arith}
use Rattle.cube_defs.specs.Rows.{Agg, Part}
use Rattle.aggregates.proofs.Aggregates.{parts-added}
use Rattle.aggregates.proofs.agg.Agg.add_row.Goals as goal

pub returns-clause-aggregate : goal.returns-clause-aggregate
returns-clause-aggregate c =
    ap (λ (ps : List Part). let a : Agg = record { count = c.args.self.now.count + 1; parts = ps } in a)
    (parts-added c.args.self.now.parts c.args.amounts.now c.add_amounts.new.parts c.args.self.now.measures
    c.requires.measures (omega arith) (omega arith) c.add_amounts.ensures.joined)
