use Rattle.std.proofs.Common.{◌≡◌, take, true}
use Rattle.std.specs.List.{list_all}
use Rattle.quotient_lattice.specs.Visits.{is_no_generalization}
use Rattle.quotient_lattice.proofs.rolling.is_most_general.Given as goal

abbrev pub invariant-met : goal.invariant-met
invariant-met l = list_all (is_no_generalization l.x) (take l.k l.met.items) ≡ true
