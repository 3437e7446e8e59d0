use Rattle.std.proofs.Common.{◌≡◌, ◌≤◌, ◌+◌, ◌*◌, length, map, take}
use Rattle.std.specs.Vec.{vec_capacity}
use Rattle.std.specs.Ordering.{nat_cmp}
use Rattle.tree_search.specs.Found.{IsTreeOf, TreeRows}
use Rattle.lower_bounds.specs.Classes.{hit_in}
use Rattle.cell_core.specs.declared.cell.NodeNo.{NodeNo}
use Rattle.qc_arena.specs.RecordReaders.{record_at}
use Rattle.quotient_lattice.specs.Neighbours as lattice
use Rattle.quotient_lattice.proofs.classes.classes_alone.Given as goal

abbrev pub invariant-nodes : goal.invariant-nodes
invariant-nodes g l = record {
  hits : (source : TreeRows) → IsTreeOf l.tree.width l.tree.tree source
      → map hit_in l.classes.items
      ≡ map (λ (node : NodeNo). lattice.class_alone nat_cmp source.measures source.rows
      (record_at l.tree.tree node.0).cell) (take l.node-index l.nodes);
  few : length l.classes.items ≤ l.node-index;
  room : length l.nodes ≤ vec_capacity l.classes;
  steps : l.steps ≤ l.fn.steps + l.node-index * (2 * l.tree.width + 3);
}
