use Rattle.std.proofs.Common.{◌≡◌}
use Rattle.qc_arena.proofs.merge.Merge.all.Given as goal

abbrev pub invariant-numbers : goal.invariant-numbers
invariant-numbers l = l.merge.0 ≡ l.fn.self.0

abbrev pub decreases-numbers : goal.decreases-numbers
decreases-numbers l = l.merge.1
