use Rattle.std.proofs.Common.{◌≡◌, is_some, true}
use Rattle.table_tests.proofs.widths.wide_table.Given as goal

abbrev pub invariant-rows : goal.invariant-rows
invariant-rows l = record { is_open : is_some l.table.was ≡ true }
