use Rattle.std.proofs.Common.{length, ◌+◌, ◌*◌, ◌-◌, ◌≤◌}
use Rattle.range_query.proofs.Finding.{FindsTaken}
use Rattle.range_query.proofs.walk.+walking.Given as goal

abbrev pub decreases-visit : goal.decreases-visit
decreases-visit g l = 6 * (g.T.Nodes.width l.scan.now.tree.now - l.at.dim) + 5

abbrev pub decreases-visit_codes : goal.decreases-visit_codes
decreases-visit_codes g l = 6 * (g.T.Nodes.width l.scan.now.tree.now - l.at.dim) + 4

abbrev pub decreases-visit_children : goal.decreases-visit_children
decreases-visit_children g l = 6 * (g.T.Nodes.width l.scan.now.tree.now - l.at.dim) + 3

abbrev pub decreases-visit_each : goal.decreases-visit_each
decreases-visit_each g l = 6 * (g.T.Nodes.width l.scan.now.tree.now - l.at.dim) + 2

abbrev pub decreases-search : goal.decreases-search
decreases-search g l = 6 * (g.T.Nodes.width l.scan.now.tree.now - l.at.dim) + 1

abbrev pub decreases-enter : goal.decreases-enter
decreases-enter g l = 6 * (g.T.Nodes.width l.scan.now.tree.now - l.at.dim)

abbrev pub invariant-visit_each-codes : goal.invariant-visit_each-codes
invariant-visit_each-codes g l =
    FindsTaken 1 (g.T.Nodes.width l.scan.tree.now) (g.T.Nodes.tree l.scan.tree.now) l.fn.cell l.at.dim l.scan.limit
    l.scan.cells.now l.at.codes.now
    l.k l.fn.hits.items l.hits.items l.cell l.fn.steps l.steps

abbrev pub invariant-visit_children-children : goal.invariant-visit_children-children
invariant-visit_children-children g l =
    FindsTaken 0 (g.T.Nodes.width l.scan.tree.now) (g.T.Nodes.tree l.scan.tree.now) l.fn.cell l.at.dim l.scan.limit
    l.scan.cells.now l.at.codes.now
    l.from l.fn.hits.items l.hits.items l.cell l.fn.steps l.steps
    × (l.from ≤ length l.at.codes.now)

abbrev pub decreases-visit_children-children : goal.decreases-visit_children-children
decreases-visit_children-children g l = length l.at.codes.now - l.from
