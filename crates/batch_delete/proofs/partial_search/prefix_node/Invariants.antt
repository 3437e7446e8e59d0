use Rattle.std.proofs.Common.{◌≡◌, ◌≤◌, ◌+◌, ◌-◌, Some, length}
use Rattle.cube_defs.specs.Cell.{cell_prefix}
use Rattle.cube_defs.specs.Tree.{cell_at}
use Rattle.batch_delete.proofs.partial_search.prefix_node.Given as goal

abbrev pub invariant-up : goal.invariant-up
invariant-up g l = record {
  at : cell_at l.arena.now l.node.0 ≡ Some (cell_prefix (length l.class.cell - l._value) l.class.cell);
  steps : l.steps ≤ l.fn.steps + l._value;
}
