use Rattle.std.proofs.Common.{◌≡◌, ◌<◌, ℕ, false, get_or}
use Rattle.base_table.specs.Places.{rows_of}
use Rattle.csv_load.specs.Batch.{Delete}
use Rattle.warehouse.specs.Steps.{is_there}
use Rattle.warehouse.proofs.checks.first_present.Given as goal

abbrev pub invariant-changes : goal.invariant-changes
invariant-changes l = (j : ℕ) → j < l.before → is_there (rows_of l.table) (get_or l.batch.changes j (Delete 0)) ≡ false
