use Rattle.std.proofs.Common.{◌≡◌, None}
use Rattle.worked_runs.proofs.failing.files_of.Given as goal

abbrev pub invariant-reads : goal.invariant-reads
invariant-reads l = l.files.store.open_name ≡ None
