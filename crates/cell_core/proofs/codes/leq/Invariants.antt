use Rattle.std.proofs.Common.{ℕ, ◌<◌, get_or}
use Rattle.cell_core.proofs.CodesLemmas.{CodeLeq}
use Rattle.cell_core.proofs.codes.leq.Given as goal

-- no entry so far parts the two
abbrev pub invariant-loop-i : goal.invariant-loop-i
invariant-loop-i l = (k : ℕ) → k < l.i → CodeLeq (get_or l.c k 0) (get_or l.d k 0)
