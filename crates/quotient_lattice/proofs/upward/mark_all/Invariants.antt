use Rattle.std.proofs.Common.{◌≡◌, ℕ, ◌+◌, ◌*◌, ◌^◌, ◌≤◌, false, length}
use Rattle.tree_search.specs.Found.{IsTreeOf, TreeRows}
use Rattle.cells_below.specs.Closed.{IsMarkedBefore}
use Rattle.cells_below.specs.Marks.{is_marked}
use Rattle.cells_below.specs.Search.{IsOnWay}
use Rattle.quotient_lattice.proofs.upward.mark_all.Given as goal

abbrev pub invariant-numbers : goal.invariant-numbers
invariant-numbers g l = record {
  room : 2 ^ l.upper.values ≤ length l.marks;
  way : IsOnWay l.upper.tree.now.width l.upper.tree.now.tree l.upper.cell.now l.search;
  below : (source : TreeRows) → IsTreeOf l.upper.tree.now.width l.upper.tree.now.tree source →
      IsMarkedBefore source l.upper.cell.now l.marks l.m;
  above : (j : ℕ) → l.m ≤ j → is_marked l.marks j ≡ false;
  steps : l.steps ≤ l.fn.steps + (l.upper.values + l.m) * (2 * length l.upper.cell.now + 2);
}
