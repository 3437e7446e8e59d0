use Rattle.std.proofs.Common.{◌≡◌, is_some, true}
use Rattle.tree_tests.proofs.trees.table_of.Given as goal

abbrev pub invariant-rows : goal.invariant-rows
invariant-rows l = record {
  is_open : is_some l.table.was ≡ true;
  dims : l.table.dims ≡ l.dims;
  measures : l.table.measures ≡ 1;
}
