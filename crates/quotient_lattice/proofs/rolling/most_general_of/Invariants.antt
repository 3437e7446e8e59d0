use Rattle.std.proofs.Common.{◌≡◌, filter, take}
use Rattle.quotient_lattice.specs.Visits.{is_most_general_among}
use Rattle.quotient_lattice.proofs.rolling.most_general_of.Given as goal

abbrev pub invariant-met : goal.invariant-met
invariant-met l = l.kept.items ≡ filter (is_most_general_among l.met.items) (take l.k l.met.items)
