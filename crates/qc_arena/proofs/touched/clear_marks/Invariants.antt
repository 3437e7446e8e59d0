use Rattle.std.proofs.Common.{◌≡◌, ◌<◌, ℕ, false, get_or}
use Rattle.qc_arena.proofs.touched.clear_marks.Given as goal

abbrev pub invariant-marks : goal.invariant-marks
invariant-marks l = (q : ℕ) → q < l.k → get_or l.marks q false ≡ false
