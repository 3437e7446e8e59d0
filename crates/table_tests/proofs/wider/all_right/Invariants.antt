use Rattle.std.proofs.Common.{◌≡◌}
use Rattle.std.specs.Prelude.{None}
use Rattle.table_tests.proofs.wider.all_right.Given as goal

abbrev pub invariant-batches : goal.invariant-batches
invariant-batches l = record { is_closed : l.table.was ≡ None }
