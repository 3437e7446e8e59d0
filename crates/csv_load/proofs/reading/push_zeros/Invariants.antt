use Rattle.std.proofs.Common.{◌≡◌, ◌++◌, length, List, ℤ}
use Rattle.csv_load.proofs.reading.push_zeros.Given as goal

abbrev pub invariant-zeros : goal.invariant-zeros
invariant-zeros l = (zeros : List ℤ) × (length zeros ≡ l.counter) × (l.amounts.items ≡ l.initial.amounts.items ++ zeros)
