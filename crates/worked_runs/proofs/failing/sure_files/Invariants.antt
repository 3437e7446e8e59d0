use Rattle.std.proofs.Common.{◌≡◌, None}
use Rattle.worked_runs.proofs.failing.sure_files.Given as goal

abbrev pub invariant-reads : goal.invariant-reads
invariant-reads l = l.files.open_name ≡ None
