use Rattle.std.proofs.Common.{All, IsTrue, ◌≡◌, ℕ, ◌<◌, ◌≤◌, get_or}
use Rattle.cell_core.specs.Codes.{is_kept}
use Rattle.cell_core.proofs.codes.upto.Given as goal

abbrev pub invariant-loop-i : goal.invariant-loop-i
invariant-loop-i l = record {
  kept : (k : ℕ) → k ≤ l.j → get_or l.c k 0 ≡ get_or l.initial.c k 0;
  all_kept : All (λ code. IsTrue (is_kept code)) l.initial.c → All (λ code. IsTrue (is_kept code)) l.c;
  cleared : (k : ℕ) → l.j < k → k < l.i → get_or l.c k 0 ≡ 4294967295;
}
