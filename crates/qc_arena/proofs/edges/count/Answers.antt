use Rattle.std.proofs.Common.{arith}
use Rattle.qc_arena.proofs.EdgeCounts.{few_stored}
use Rattle.qc_arena.proofs.edges.count.Goals as goal

pub overflow_cast-result : goal.overflow_cast-result
overflow_cast-result c =
    let few = few_stored c.args.edges.now.items c.requires in
    omega (arith, few, c.len.ensures.value)
