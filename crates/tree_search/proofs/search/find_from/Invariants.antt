use Rattle.std.proofs.Common.{◌≡◌, ◌+◌, ◌*◌, ◌≤◌}
use Rattle.std.specs.Prelude.{IsSome}
use Rattle.std.specs.FinMap as map
use Rattle.tree_search.proofs.Walked.{rest}
use Rattle.tree_search.proofs.search.find_from.Given as goal

abbrev pub invariant-dims : goal.invariant-dims
invariant-dims g l = record {
  walk : rest (g.T.Nodes.tree l.tree) l.cell l.fn.node.0 l.dim ≡ rest (g.T.Nodes.tree l.tree) l.cell l.at.0 l.i;
  there : IsSome (map.get (g.T.Nodes.tree l.tree) l.at.0);
  steps : l.steps + 2 * l.dim ≤ l.fn.steps + 2 * l.i;
}
