use Rattle.std.proofs.Common.{◌≡◌, ◌<◌, ℕ, None, drop, get_or, length}
use Rattle.cells_below.specs.Numbers.{cell_of_number}
use Rattle.cells_below.proofs.numbers.turn_cell.Given as goal
use Rattle.cube_laws.specs.Parts.{value_count}

abbrev pub invariant-dims : goal.invariant-dims
invariant-dims l = record {
  k : l.k ≡ value_count (drop l.dim l.u);
  dims : length l.cell ≡ length l.u;
  written : drop l.dim l.cell ≡ cell_of_number (drop l.dim l.u) l.to;
  before : (j : ℕ) → j < l.dim → get_or l.cell j None ≡ get_or l.fn.cell j None;
}
