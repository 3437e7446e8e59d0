use Rattle.std.proofs.Common.{◌≡◌, ◌+◌, ◌*◌, ◌≤◌, Some, filter, length, map}
use Rattle.std.specs.List.{range_with_len}
use Rattle.cube_defs.specs.Tree.{cell_at}
use Rattle.tree_search.specs.Found.{IsTreeOf, TreeRows}
use Rattle.cells_below.specs.Numbers.{cell_of_number}
use Rattle.quotient_lattice.specs.Joined.{joins}
use Rattle.quotient_lattice.proofs.upward.parents_by_marks.Given as goal

abbrev pub invariant-numbers : goal.invariant-numbers
invariant-numbers g l = record {
  nodes : (source : TreeRows) → IsTreeOf l.upper.tree.now.width l.upper.tree.now.tree source →
      map (λ k. cell_at l.upper.tree.now.tree k.0) l.nodes.items
      ≡ map (λ m. Some (cell_of_number l.upper.cell.now m))
      (filter (joins source l.upper.cell.now) (range_with_len 0 l.m));
  steps : l.steps ≤ l.fn.steps + l.m * (2 * length l.upper.cell.now + 2);
}
