use Rattle.std.proofs.Common.{◌≡◌, is_some, true}
use Rattle.table_tests.proofs.rows.have_replies.Given as goal

abbrev pub invariant-changes : goal.invariant-changes
invariant-changes l = record { is_open : is_some l.table.was ≡ true }
