use Rattle.std.proofs.Common.{take, ◌+◌, ◌≡◌, ◌≤◌}
use Rattle.qc_arena.specs.RecordReaders.{record_at}
use Rattle.range_query.specs.Children.{AreChildren}
use Rattle.range_query.proofs.children.Children.read.Given as goal

abbrev pub invariant-edges : goal.invariant-edges
invariant-edges g l = AreChildren l.codes l.dim (take l.k (record_at (g.T.Nodes.tree l.tree) l.node.0).edges)
    (take l.self.len l.self.items)
    × (l.self.len ≤ l.k) × (l.steps ≡ l.fn.steps + (1 + l.k))
