use Rattle.std.proofs.Common.{◌≡◌, ◌<◌, ℕ, false, get_or, take}
use Rattle.base_table.specs.Places.{rows_of}
use Rattle.csv_load.specs.Batch.{Delete, deleted}
use Rattle.qc_arena.specs.Map as arena
use Rattle.warehouse.specs.Batch.{is_missing}
use Rattle.warehouse.specs.Changing.{AreDeleted}
use Rattle.warehouse.specs.InPlace.{KeepsNumbers}
use Rattle.warehouse.specs.State.{ids_of}
use Rattle.warehouse.specs.Steps.{frame}
use Rattle.warehouse.proofs.Deletions.{deletion_of}
use Rattle.warehouse.proofs.deleting.delete_rows.Given as goal

abbrev pub ghost-delete_id : goal.ghost-delete_id
ghost-delete_id g a = deletion_of a.table.now a.id

abbrev pub invariant-changes : goal.invariant-changes
invariant-changes g l =
    record {
      so_far : AreDeleted (deleted (take l.before l.batch.changes)) l.initial.table l.table l.initial.tree l.tree
          l.initial.steps l.steps;
      none : (j : ℕ) → j < l.before
          → is_missing (ids_of (rows_of l.initial.table)) (get_or l.batch.changes j (Delete 0)) ≡ false;
      none_new : KeepsNumbers l.tree.now l.initial.tree.now;
      frame : frame l.table ≡ frame l.initial.table;
      tree_frame : arena.frame l.tree ≡ arena.frame l.initial.tree;
    }
