use Rattle.std.proofs.Common.{◌≡◌, ℕ, ◌<◌, get_or}
use Rattle.cell_closure.proofs.width.has_value.Given as goal

abbrev pub invariant-dims : goal.invariant-dims
invariant-dims g l = (j : ℕ) → j < l.dim → get_or l.codes j 0 ≡ 4294967295
