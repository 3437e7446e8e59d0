use Rattle.std.proofs.Common.{length, ◌++◌, ◌<◌, ◌≡◌}
use Rattle.std.specs.List.{All}
use Rattle.measure_index.specs.Blocks.{joined}
use Rattle.measure_index.proofs.blocks.blocks_of.Given as goal

abbrev pub invariant-parts : goal.invariant-parts
invariant-parts l = record {
  full : All (λ b. 0 < length b.items) l.blocks.items;
  keys : joined l.blocks.items ++ l.rest ≡ l.keys;
}

abbrev pub decreases-parts : goal.decreases-parts
decreases-parts l = length l.rest
