use Rattle.std.proofs.Common.{◌≡◌, ℕ, ◌<◌, ◌≤◌, length, get_or}
use Rattle.cell_closure.specs.Widths.{met}
use Rattle.cell_closure.proofs.width.meet_fixed.Given as goal

abbrev pub invariant-entries : goal.invariant-entries
invariant-entries g l = record {
  long : length l.acc ≡ length l.initial.acc;
  done : (k : ℕ) → k < l.i → get_or l.acc k 0 ≡ met (get_or l.initial.acc k 0) (get_or l.row k 0);
  rest : (k : ℕ) → l.i ≤ k → get_or l.acc k 0 ≡ get_or l.initial.acc k 0;
}
