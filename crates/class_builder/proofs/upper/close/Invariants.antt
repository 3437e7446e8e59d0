use Rattle.std.proofs.Common.{◌≡◌, ℕ, ◌<◌, length}
use Rattle.base_table.specs.Places.{named}
use Rattle.cube_laws.specs.Parting.{shared_by}
use Rattle.cube_laws.proofs.CallerLemmas.{entry}
use Rattle.class_builder.proofs.upper.close.Given as goal

abbrev pub invariant-dims : goal.invariant-dims
invariant-dims l = record {
  long : length l.shared ≡ l.group.table.now.dims;
  done : (j : ℕ) → j < l.i → entry l.shared j ≡ entry (shared_by (named l.group.table.now l.group.rows.now)) j;
}
