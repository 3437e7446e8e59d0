use Rattle.std.proofs.Common.{◌≡◌, ◌+◌, ◌*◌, ◌≤◌, length}
use Rattle.std.specs.Prelude.{IsSome}
use Rattle.std.specs.FinMap as map
use Rattle.cube_defs.specs.Cell.{cell_prefix, depth}
use Rattle.cube_laws.specs.Parts.{value_count}
use Rattle.qc_arena.specs.RecordReaders.{record_at}
use Rattle.tree_search.specs.Found.{IsTreeOf, TreeRows}
use Rattle.quotient_lattice.specs.Candidates.{AreFound, AreThere, edges_on_way}
use Rattle.quotient_lattice.proofs.candidates.child_candidates.Given as goal

abbrev pub invariant-up : goal.invariant-up
invariant-up g l = record {
  same : l.u ≡ l.fn.u;
  at : IsSome (map.get l.tree.tree l.at.0);
  front : (record_at l.tree.tree l.at.0).cell
      ≡ cell_prefix (depth (record_at l.tree.tree l.at.0).cell) l.fn.u;
  led : (source : TreeRows) → IsTreeOf l.tree.width l.tree.tree source
      → AreFound source l.tree.tree l.fn.u (depth (record_at l.tree.tree l.at.0).cell)
      l.tree.width l.led.items;
  there : AreThere l.tree.tree l.led.items;
  few : length l.led.items + edges_on_way l.tree.tree l.at.0 ≤ edges_on_way
      l.tree.tree l.fn.node.0 + length (record_at l.tree.tree l.at.0).edges;
  steps : l.steps + (2 * length l.fn.u + 3) * edges_on_way l.tree.tree l.at.0 + 3 * value_count
      (record_at l.tree.tree l.at.0).cell
      ≤ l.fn.steps + (2 * length l.fn.u + 3) * (edges_on_way l.tree.tree l.fn.node.0
      + length (record_at l.tree.tree l.at.0).edges) + 3 * value_count l.fn.u + 1;
}

abbrev pub decreases-up : goal.decreases-up
decreases-up g l = depth (record_at l.tree.tree l.at.0).cell
