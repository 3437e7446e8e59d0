use Rattle.std.proofs.Common.{List, ap, arith, length, sym, subst}
use Rattle.measure_index.specs.Blocks.{AreBlocks, joined}
use Rattle.measure_index.proofs.BlockLemmas.{Block, none_are}
use Rattle.measure_index.proofs.sorted_keys.SortedKeys.new.Goals as goal

pub invariant_of-result : goal.invariant_of-result
invariant_of-result c =
    let none = c.new.ensures.items in
    (subst AreBlocks (sym none) none_are, ap (λ (bs : List Block). length (joined bs)) (sym none), omega arith)
