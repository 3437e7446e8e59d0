use Rattle.std.proofs.Common.{List, ap, arith, map, sym, take, ◌∙◌}
use Rattle.cube_defs.specs.Rows.{Agg, Part}
use Rattle.aggregates.specs.Views.{part_in}
use Rattle.aggregates.proofs.Aggregates.{parts-set}
use Rattle.aggregates.proofs.agg.Agg.restart.Goals as goal

pub returns-clause-aggregate : goal.returns-clause-aggregate
returns-clause-aggregate c =
    ap (λ (ps : List Part). let a : Agg = record { count = 1; parts = ps } in a)
    (ap (λ n. map part_in (take n c.set_parts.new.parts)) (sym c.requires.measures)
    ∙ parts-set c.args.amounts.now c.set_parts.new.parts (omega arith) c.set_parts.ensures.set)
