use Rattle.std.proofs.Common.{◌≡◌, ◌≤◌, ◌+◌, ◌-◌, Some}
use Rattle.cube_defs.specs.Cell.{cell_prefix}
use Rattle.cube_defs.specs.Tree.{cell_at}
use Rattle.drill_links.proofs.way.descend.Given as goal

abbrev pub invariant-down : goal.invariant-down
invariant-down g l = record {
  at : cell_at l.arena.now l.node.0 ≡ Some (cell_prefix l.dim l.target);
  steps : l.steps ≤ l.initial.steps + (l.dim - l.first);
}
