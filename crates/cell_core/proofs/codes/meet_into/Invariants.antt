use Rattle.std.proofs.Common.{All, IsTrue, ◌≡◌, ℕ, ◌<◌, ◌≤◌, get_or}
use Rattle.cell_core.specs.Codes.{is_kept}
use Rattle.cell_core.proofs.CodesLemmas.{code_meet}
use Rattle.cell_core.proofs.codes.meet_into.Given as goal

abbrev pub invariant-loop-i : goal.invariant-loop-i
invariant-loop-i l = record {
  done : (k : ℕ) → k < l.i → get_or l.c k 0 ≡ code_meet (get_or l.initial.c k 0) (get_or l.d k 0);
  kept : All (λ code. IsTrue (is_kept code)) l.initial.c → All (λ code. IsTrue (is_kept code)) l.c;
  rest : (k : ℕ) → l.i ≤ k → get_or l.c k 0 ≡ get_or l.initial.c k 0;
}
