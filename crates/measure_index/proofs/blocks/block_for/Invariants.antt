use Rattle.std.proofs.Common.{◌-◌}
use Rattle.measure_index.specs.Blocks.{AreBounds}
use Rattle.measure_index.proofs.blocks.block_for.Given as goal

abbrev pub invariant-halves : goal.invariant-halves
invariant-halves l = AreBounds l.blocks l.key l.low l.high

abbrev pub decreases-halves : goal.decreases-halves
decreases-halves l = l.high - l.low
