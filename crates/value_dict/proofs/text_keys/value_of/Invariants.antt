use Rattle.std.proofs.Common.{◌≡◌, ◌-◌, ◌≤◌, drop, length}
use Rattle.value_dict.specs.Hashing.{value_after, value_of}
use Rattle.value_dict.proofs.text_keys.value_of.Given as goal

abbrev pub invariant-pieces : goal.invariant-pieces
invariant-pieces l = record {
  value : value_after l.multiplier l.value (drop l.at l.text) ≡ value_of l.multiplier l.text;
  within : l.at ≤ length l.text;
}

abbrev pub decreases-pieces : goal.decreases-pieces
decreases-pieces l = length l.text - l.at
