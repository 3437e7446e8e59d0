use Rattle.std.proofs.Common.{◌≡◌, ◌≤◌, length, take}
use Rattle.base_table.proofs.chains.cut.Given as goal

abbrev pub invariant-keys : goal.invariant-keys
invariant-keys g l = record {
  kept : l.chains ≡ take (length l.chains) l.initial.chains;
  enough : l.len ≤ length l.chains;
}

abbrev pub decreases-keys : goal.decreases-keys
decreases-keys g l = length l.chains
