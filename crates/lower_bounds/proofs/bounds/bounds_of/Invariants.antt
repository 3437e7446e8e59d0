use Rattle.std.proofs.Common.{◌≡◌, ℕ, ◌+◌, ◌*◌, ◌^◌, ◌≤◌, false, filter, length, map}
use Rattle.std.specs.List.{range_with_len}
use Rattle.tree_search.specs.Found.{IsTreeOf, TreeRows}
use Rattle.cells_below.specs.Closed.{AreNeeded, IsMarkedBefore, bounds}
use Rattle.cells_below.specs.Marks.{is_marked}
use Rattle.cells_below.specs.Numbers.{cell_of_number}
use Rattle.cells_below.specs.Search.{IsOnWay}
use Rattle.lower_bounds.proofs.bounds.bounds_of.Given as goal

abbrev pub invariant-numbers : goal.invariant-numbers
invariant-numbers g l = record {
  room : 2 ^ l.upper.values ≤ length l.marks;
  way : IsOnWay l.upper.tree.now.width l.upper.tree.now.tree l.upper.cell.now l.search;
  below : (source : TreeRows) → IsTreeOf l.upper.tree.now.width l.upper.tree.now.tree source
      → IsMarkedBefore source l.upper.cell.now l.marks l.m;
  above : (j : ℕ) → l.m ≤ j → is_marked l.marks j ≡ false;
  cells : (source : TreeRows) → IsTreeOf l.upper.tree.now.width l.upper.tree.now.tree source
      → l.cells ≡ map (cell_of_number l.upper.cell.now) (filter (bounds source l.upper.cell.now) (range_with_len 0 l.m));
  few : length l.cells ≤ l.m;
  steps : l.steps ≤ l.fn.steps + (l.upper.values + l.m) * (2 * length l.upper.cell.now + 2);
  needed : (source : TreeRows) → IsTreeOf l.upper.tree.now.width l.upper.tree.now.tree source
      → AreNeeded source l.upper.cell.now l.needed;
}
