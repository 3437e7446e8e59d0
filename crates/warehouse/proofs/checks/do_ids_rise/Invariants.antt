use Rattle.std.proofs.Common.{◌≡◌, ◌<◌, ◌≤◌, ◌+◌, ℕ, drop, get_or, take}
use Rattle.csv_load.specs.Batch.{Delete, id_of}
use Rattle.warehouse.specs.Batch.{first_twice, twice_from}
use Rattle.warehouse.proofs.checks.do_ids_rise.Given as goal

abbrev pub invariant-changes : goal.invariant-changes
invariant-changes l =
    let changes = l.batch.changes in
    record {
      below : (j : ℕ) → j < l.before → id_of (get_or changes j (Delete 0)) ≤ l.last;
      rest : twice_from (l.before + 1) (take l.before changes) (drop l.before changes) ≡ first_twice changes;
    }
