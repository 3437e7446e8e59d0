use Rattle.std.proofs.Common.{◌≡◌, drop, length}
use Rattle.cells_below.specs.Numbers.{cell_of_number}
use Rattle.cells_below.proofs.numbers.write_cell.Given as goal
use Rattle.cube_laws.specs.Parts.{value_count}

abbrev pub invariant-dims : goal.invariant-dims
invariant-dims l = record {
  k : l.k ≡ value_count (drop l.dim l.u);
  dims : length l.out ≡ length l.u;
  out : drop l.dim l.out ≡ cell_of_number (drop l.dim l.u) l.m;
}
