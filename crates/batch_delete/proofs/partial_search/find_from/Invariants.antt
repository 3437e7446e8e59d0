use Rattle.std.proofs.Common.{◌≤◌, ◌<◌, ◌+◌, ◌-◌, ◌*◌, Some, nat_cmp}
use Rattle.std.specs.Ordering.{eq_by_cmp}
use Rattle.cube_defs.specs.Cell.{with_value}
use Rattle.tree_laws.specs.Walk.{closure_prefix}
use Rattle.tree_search.specs.Found.{IsNumberOfCell}
use Rattle.batch_delete.specs.Rests.{rows_before}
use Rattle.batch_delete.proofs.partial_search.find_from.Given as goal

abbrev pub invariant-dims : goal.invariant-dims
invariant-dims g l = record {
  on : IsNumberOfCell l.arena.now (Some l.node.0)
      (closure_prefix (eq_by_cmp nat_cmp) (rows_before g.d) (with_value l.cell l.fn.label.0 l.fn.label.1) l.next);
  from : l.fn.label.0 < l.next;
  steps : l.steps ≤ l.fn.steps + 2 * (l.next - l.fn.label.0 - 1);
}
