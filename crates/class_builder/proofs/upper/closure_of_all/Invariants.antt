use Rattle.std.proofs.Common.{◌≡◌, ℕ, ◌<◌, length}
use Rattle.base_table.specs.Places.{named}
use Rattle.cube_laws.specs.Parting.{shared_by}
use Rattle.cube_laws.proofs.CallerLemmas.{entry}
use Rattle.class_builder.proofs.upper.closure_of_all.Given as goal

abbrev pub invariant-dims : goal.invariant-dims
invariant-dims l = record {
  long : length l.shared ≡ l.rows.table.now.dims;
  done : (j : ℕ) → j < l.dim → entry l.shared j ≡ entry (shared_by (named l.rows.table.now l.rows.numbers.now)) j;
}
