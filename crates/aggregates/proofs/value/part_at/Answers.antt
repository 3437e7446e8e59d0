use Rattle.std.proofs.Common.{ℕ, ap, arith, slice_index_or}
use Rattle.aggregates.specs.Bounds.{zero_part}
use Rattle.aggregates.specs.Views.{part_in}
use Rattle.aggregates.proofs.Parts.{part-in}
use Rattle.aggregates.proofs.value.part_at.Goals as goal

pub returns : goal.returns
returns c =
    let e = part-in c.args.agg.now.parts c.args.agg.now.measures c.args.measure c.requires (omega arith) in
    rw e (ap (λ (k : ℕ). part_in (slice_index_or c.args.agg.now.parts k zero_part)) c.from.ensures)
