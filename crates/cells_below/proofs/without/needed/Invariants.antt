use Rattle.std.proofs.Common.{◌≡◌, ◌+◌, ◌*◌, ◌<◌, ◌≤◌, drop, length}
use Rattle.std.specs.Prelude.{IsSome}
use Rattle.std.specs.FinMap as map
use Rattle.cube_laws.specs.Parts.{value_count}
use Rattle.tree_search.specs.Found.{IsTreeOf, TreeRows}
use Rattle.cells_below.specs.Closed.{AreNeeded, IsReached}
use Rattle.cells_below.proofs.without.needed.Given as goal

abbrev pub invariant-dims : goal.invariant-dims
invariant-dims g l = record {
  there : IsSome (map.get l.upper.tree.now.tree l.node.0);
  reached : (source : TreeRows) → IsTreeOf l.upper.tree.now.width l.upper.tree.now.tree source →
      IsReached l.upper.tree.now.tree source l.upper.cell.now l.node.0 l.dim;
  are : (source : TreeRows) → IsTreeOf l.upper.tree.now.width l.upper.tree.now.tree source →
      AreNeeded source l.upper.cell.now l.needed;
  left : l.left ≡ value_count (drop l.dim l.upper.cell.now);
  more : 0 < l.left;
  steps : l.steps + l.left * (2 * length l.upper.cell.now)
      ≤ l.fn.steps + 1 + 2 * l.dim + l.upper.values * (2 * length l.upper.cell.now);
}
