use Rattle.std.proofs.Common.{◌≡◌, ◌≤◌, ◌+◌}
use Rattle.std.specs.FinMap as finmap
use Rattle.warehouse.specs.ClassMoves.{HaveChildren}
use Rattle.warehouse.proofs.widening.widen_tree.Given as goal

abbrev pub invariant-places : goal.invariant-places
invariant-places g l = record {
  way : HaveChildren l.fn.tree.width l.place l.fn.tree.now l.tree.now l.fn.classes.items l.classes.items;
  rest : l.tree ≡ record l.fn.tree { width = l.fn.tree.width + 1; now = l.tree.now };
  size : finmap.len l.tree.now ≤ finmap.len l.fn.tree.now + l.place;
  steps : l.steps ≤ l.fn.steps + l.place;
}
