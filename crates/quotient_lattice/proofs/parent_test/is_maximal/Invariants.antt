use Rattle.std.proofs.Common.{◌≡◌, true}
use Rattle.quotient_lattice.specs.Joined.{is_most}
use Rattle.quotient_lattice.proofs.parent_test.is_maximal.Given as goal

abbrev pub invariant-bits : goal.invariant-bits
invariant-bits l = is_most l.marks l.k l.m ≡ true
