use Rattle.std.proofs.Common.{arith}
use Rattle.std.proofs.lemmas.List.{take_all}
use Rattle.std.specs.Ordering.{nat_cmp}
use Rattle.cell_core.specs.declared.cell.NodeNo.{NodeNo}
use Rattle.lower_bounds.specs.Classes.{hit_in}
use Rattle.qc_arena.specs.RecordReaders.{record_at}
use Rattle.quotient_lattice.specs.Neighbours as lattice
use Rattle.quotient_lattice.proofs.Turns.{map_more}
use Rattle.quotient_lattice.proofs.classes.classes_alone.Goals as goal

pub nodes-preserved : goal.nodes-preserved
nodes-preserved g c = record {
  hits = λ source h. map_more hit_in (λ (node : NodeNo). lattice.class_alone nat_cmp source.measures source.rows
      (record_at c.of-tree.result.tree node.0).cell)
      c.nodes.classes.items c.push_reserved.new.self.items c.class_alone-class.result c.args.nodes.now
      c.nodes.node-index _ (omega arith) c.push_reserved.ensures.items (c.nodes.invariant.hits source h)
      (c.class_alone-class.ensures.class source h);
  few = omega (arith, c.push_reserved.ensures.len, c.nodes.invariant.few);
  room = omega (arith, c.push_reserved.ensures.capacity, c.nodes.invariant.room);
  steps = omega (arith, c.nodes.invariant.steps, c.class_alone-class.ensures.steps);
}

pub returns-clause-classes : goal.returns-clause-classes
returns-clause-classes g c =
    let told = rw (c.of-tree.ensures.width, c.of-tree.ensures.tree) at c.nodes.invariant.hits in
    λ source h. rw (take_all c.nodes.node-index c.args.nodes.now (omega arith)) at (told source h)

pub class_alone-class-requires : goal.class_alone-class-requires
class_alone-class-requires g c = rw c.of-tree.ensures.tree (c.requires.classes c.nodes.node-index _ (omega arith))
