use Rattle.std.proofs.Common.{◌≡◌, ◌+◌, drop, take}
use Rattle.warehouse.specs.Batch.{first_twice, twice_from}
use Rattle.warehouse.specs.Steps.{AreChangeIds}
use Rattle.warehouse.proofs.checks.first_repeated.Given as goal

abbrev pub invariant-changes : goal.invariant-changes
invariant-changes l =
    let changes = l.batch.changes in
    record {
      seen : AreChangeIds l.seen.gone.keys l.seen.come.keys (take l.before changes);
      rest : twice_from (l.before + 1) (take l.before changes) (drop l.before changes) ≡ first_twice changes;
    }
