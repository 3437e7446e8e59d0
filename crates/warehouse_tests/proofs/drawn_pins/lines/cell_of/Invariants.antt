use Rattle.std.proofs.Common.{◌≡◌, length}
use Rattle.warehouse_tests.proofs.drawn_pins.lines.cell_of.Given as goal

abbrev pub invariant-dims : goal.invariant-dims
invariant-dims l = length l.cell ≡ 3
