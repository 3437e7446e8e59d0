use Rattle.std.proofs.Common.{◌≡◌, None}
use Rattle.table_tests.proofs.outside.files_of.Given as goal

abbrev pub invariant-given : goal.invariant-given
invariant-given l = l.files.store.open_name ≡ None
