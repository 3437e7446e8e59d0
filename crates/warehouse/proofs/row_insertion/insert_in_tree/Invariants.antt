use Rattle.std.proofs.Common.{◌≡◌, ◌≤◌, ◌+◌}
use Rattle.qc_arena.specs.Map.{frame}
use Rattle.warehouse.specs.InPlace.{KeepsOtherRecords, KeepsNumbers, TouchesOnly, cost_of_insertions}
use Rattle.warehouse.specs.Steps.{IsTreeBefore, rows_before, rows_between}
use Rattle.warehouse.proofs.row_insertion.insert_in_tree.Given as goal

abbrev pub invariant-rows : goal.invariant-rows
invariant-rows g l = record {
  first : l.first ≤ l.place;
  tree : IsTreeBefore l.table l.tree l.place;
  numbers : KeepsNumbers l.initial.tree.now l.tree.now;
  apart : KeepsOtherRecords (rows_between l.table l.first l.place) l.initial.tree.now l.tree.now;
  touches : TouchesOnly (rows_between l.table l.first l.place) l.tree.now l.initial.tree l.tree;
  steps : l.steps ≤ l.initial.steps + cost_of_insertions l.table.dims (rows_before l.table l.first)
      (rows_between l.table l.first l.place);
  frame : frame l.tree ≡ frame l.initial.tree;
}
