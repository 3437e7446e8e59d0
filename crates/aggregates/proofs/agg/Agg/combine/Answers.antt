use Rattle.std.proofs.Common.{ℕ, ◌+◌, List, map, take, ap, sym, ◌∙◌, arith}
use Rattle.cube_defs.specs.Rows.{Agg, Part}
use Rattle.cube_laws.specs.Total.{combine_parts}
use Rattle.aggregates.specs.Views.{part_in}
use Rattle.aggregates.proofs.Aggregates.{parts-joined}
use Rattle.aggregates.proofs.agg.Agg.combine.Goals as goal

pub returns-clause-aggregate : goal.returns-clause-aggregate
returns-clause-aggregate c =
    let own = c.args.self.now.parts in
    let others = c.args.other.now.parts in
    let measures = c.args.self.now.measures in
    let same = ap (λ (n : ℕ). combine_parts (map part_in (take measures own)) (map part_in (take n others)))
    (sym c.requires.measures) in
    ap (λ (ps : List Part). let a : Agg
    = record { count = c.args.self.now.count + c.args.other.now.count; parts = ps } in a)
    (parts-joined own others c.join_parts.new.parts measures (omega arith) (omega arith)
    (omega arith) c.join_parts.ensures.joined ∙ same)
