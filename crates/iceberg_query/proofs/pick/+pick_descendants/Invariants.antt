use Rattle.std.proofs.Common.{◌≡◌, ◌≤◌, ◌+◌, ◌*◌, ◌++◌, ◌-◌, length}
use Rattle.qc_arena.specs.RecordReaders.{record_at}
use Rattle.iceberg_query.specs.Subtree.{numbers, wanted}
use Rattle.iceberg_query.specs.Costs.{walk_cost}
use Rattle.iceberg_query.proofs.Walked.{so_far}
use Rattle.iceberg_query.proofs.pick.+pick_descendants.Given as goal

abbrev pub decreases-pick_descendants : goal.decreases-pick_descendants
decreases-pick_descendants g l = l.values

abbrev pub invariant-edges : goal.invariant-edges
invariant-edges g l = record {
  picked : numbers l.picked.items ≡ numbers l.fn.picked.items ++ wanted l.selection.tree.now.tree
      l.selection.ask.now (so_far l.selection.tree.now.tree l.node.0 (l.values - 1) l.k);
  steps : l.steps + 2 * length (record_at l.selection.tree.now.tree l.node.0).edges
      ≤ l.fn.steps + 2 * l.k + walk_cost l.selection.tree.now.tree
      (so_far l.selection.tree.now.tree l.node.0 (l.values - 1) l.k);
}
