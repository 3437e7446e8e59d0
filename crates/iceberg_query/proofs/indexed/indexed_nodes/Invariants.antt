use Rattle.std.proofs.Common.{◌≡◌, ◌++◌, length, map}
use Rattle.iceberg_query.specs.Subtree.{numbers}
use Rattle.iceberg_query.specs.Indexed.{qualifying_entries, node_of}
use Rattle.iceberg_query.proofs.indexed.indexed_nodes.Given as goal

abbrev pub invariant-walk : goal.invariant-walk
invariant-walk l = numbers l.nodes.items ++ map node_of l.walk.left ≡ map node_of (qualifying_entries l.ask l.index)

abbrev pub decreases-walk : goal.decreases-walk
decreases-walk l = length l.walk.left
