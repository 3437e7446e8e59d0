use Rattle.std.proofs.Common.{◌≤◌, length}
use Rattle.measure_index.proofs.keys.back_from.Given as goal

abbrev pub invariant-places : goal.invariant-places
invariant-places g l = l.at ≤ length l.items

abbrev pub decreases-places : goal.decreases-places
decreases-places g l = l.at
