use Rattle.std.proofs.Common.{◌≡◌, ℕ, ◌<◌, ◌≤◌, get_or}
use Rattle.cell_closure.specs.Runs.{no_row}
use Rattle.cell_closure.proofs.parts.run_end.Given as goal

abbrev pub invariant-rows : goal.invariant-rows
invariant-rows l = (k : ℕ) → l.start ≤ k → k < l.i → (get_or l.keyed k no_row).code ≡ l.code
