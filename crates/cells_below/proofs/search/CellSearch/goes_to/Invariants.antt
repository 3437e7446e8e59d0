use Rattle.std.proofs.Common.{◌≡◌, ◌+◌, ◌*◌, ◌≤◌}
use Rattle.cells_below.specs.Search.{IsOnWay, node_before}
use Rattle.cells_below.proofs.search.CellSearch.goes_to.Given as goal

abbrev pub invariant-dims : goal.invariant-dims
invariant-dims g l = record {
  way : IsOnWay l.upper.tree.now.width l.upper.tree.now.tree l.upper.cell.now l.self;
  known : l.self.known ≡ l.dim + 1;
  node : l.node.0 ≡ node_before l.self.nodes l.dim;
  cell : l.self.cell ≡ l.fn.self.cell;
  steps : l.steps ≤ l.fn.steps + 2 * l.dim;
}
