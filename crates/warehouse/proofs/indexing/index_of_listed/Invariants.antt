use Rattle.std.proofs.Common.{◌≡◌, ◌≤◌, ◌+◌, List, length, map, take}
use Rattle.aggregates.specs.declared.agg.Agg.{Agg}
use Rattle.cell_core.specs.declared.cell.NodeNo.{NodeNo}
use Rattle.measure_index.specs.Builder.{AreKeysOf, gathered_units}
use Rattle.qc_arena.specs.Changes.{class_now}
use Rattle.warehouse.proofs.Indexed.{unit-in}
use Rattle.warehouse.proofs.ListedClasses.{AreListed, IsBefore, marks_of}
use Rattle.warehouse.proofs.indexing.index_of_listed.Given as goal

abbrev pub invariant-places : goal.invariant-places
invariant-places g l = record {
  units : gathered_units l.filling ≡ map (unit-in l.schema) l.schema.indexes;
  classes : (pairs : List (NodeNo × Agg)) × AreKeysOf pairs l.filling
      × AreListed (class_now l.tree) (IsBefore l.nodes.items l.place) pairs
      × (length pairs ≡ marks_of l.tree.now (take l.place l.nodes.items));
  steps : l.steps ≤ l.initial.steps + l.place;
  within : l.place ≤ length l.nodes.items;
}
