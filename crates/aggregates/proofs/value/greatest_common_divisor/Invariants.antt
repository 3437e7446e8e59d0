use Rattle.std.proofs.Common.{ℕ}
use Rattle.std.specs.Int.{IsGcd}
use Rattle.aggregates.proofs.value.greatest_common_divisor.Given as goal

-- what divides both now divides both at first
abbrev pub invariant-euclid : goal.invariant-euclid
invariant-euclid l = (g : ℕ) → IsGcd l.a l.b g → IsGcd l.fn.first l.fn.second g

abbrev pub decreases-euclid : goal.decreases-euclid
decreases-euclid l = l.b
