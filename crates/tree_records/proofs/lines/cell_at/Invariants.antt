use Rattle.qc_arena.specs.Map.{AreRooted}
use Rattle.tree_records.proofs.Climbing.{IsOnWay}
use Rattle.tree_records.proofs.lines.cell_at.Given as goal

abbrev pub invariant-up : goal.invariant-up
invariant-up g l = AreRooted l.fn.tree.now → IsOnWay l.fn.tree.now l.fn.node.0 l.at.0 l.counter l.cell
