use Rattle.std.proofs.Common.{◌≡◌, List, length}
use Rattle.std.specs.List.{All}
use Rattle.aggregates.specs.Views.{IsThere}
use Rattle.aggregates.specs.declared.agg.Agg.{Agg}
use Rattle.cell_core.specs.declared.cell.NodeNo.{NodeNo}
use Rattle.measure_index.specs.Builder.{AreKeysOf, gathered_units}
use Rattle.tree_tests.proofs.indexes.filled.Given as goal

abbrev pub invariant-told : goal.invariant-told
invariant-told l = record {
  units : All (λ unit. IsThere 1 unit.0) (gathered_units l.filling);
  classes : (before : List (NodeNo × Agg)) × AreKeysOf before l.filling × (length before ≡ l.k);
}
