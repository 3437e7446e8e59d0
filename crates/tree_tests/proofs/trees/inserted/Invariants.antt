use Rattle.std.proofs.Common.{◌≡◌, false}
use Rattle.qc_arena.specs.Map.{is_open}
use Rattle.tree_tests.specs.Rows.{HasRows}
use Rattle.tree_tests.proofs.trees.inserted.Given as goal

abbrev pub invariant-rows : goal.invariant-rows
invariant-rows g l = record {
  closed : is_open l.arena ≡ false;
  width : l.arena.width ≡ l.dims;
  rows : HasRows l.place l.arena;
}
