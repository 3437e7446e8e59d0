use Rattle.std.proofs.Common.{◌≡◌, ◌+◌, ◌-◌, List, ℕ}
use Rattle.cell_core.specs.declared.cell.NodeNo.{NodeNo}
use Rattle.cube_defs.specs.Tree.{Tree}
use Rattle.warehouse.specs.ClassMoves.{HaveChildren}
use Rattle.warehouse.proofs.widening.narrow_tree.Given as goal

abbrev pub invariant-places : goal.invariant-places
invariant-places g l = record {
  way : (before : Tree ℕ) (old : List NodeNo)
      → HaveChildren (l.fn.tree.width - 1) l.count before l.fn.tree.now old l.fn.classes.items
      → HaveChildren (l.fn.tree.width - 1) l.place before l.tree.now old l.classes.items;
  rest : l.tree ≡ record l.fn.tree { now = l.tree.now };
  steps : l.steps + l.place ≡ l.fn.steps + l.count;
}
