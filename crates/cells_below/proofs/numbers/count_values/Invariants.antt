use Rattle.std.proofs.Common.{◌≡◌, drop}
use Rattle.cells_below.proofs.numbers.count_values.Given as goal
use Rattle.cube_laws.specs.Parts.{value_count}

abbrev pub invariant-dims : goal.invariant-dims
invariant-dims l = l.count ≡ value_count (drop l.dim l.u)
