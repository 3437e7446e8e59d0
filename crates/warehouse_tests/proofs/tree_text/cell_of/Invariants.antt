use Rattle.std.proofs.Common.{◌≡◌, length}
use Rattle.warehouse_tests.proofs.tree_text.cell_of.Given as goal

abbrev pub invariant-dims : goal.invariant-dims
invariant-dims l = length l.cell ≡ l.dims
