use Rattle.std.proofs.Common.{◌≡◌, true}
use Rattle.cells_below.specs.Marks.{is_least}
use Rattle.cells_below.proofs.pruned.is_minimal.Given as goal

abbrev pub invariant-bits : goal.invariant-bits
invariant-bits l = is_least l.marks l.k l.m ≡ true
