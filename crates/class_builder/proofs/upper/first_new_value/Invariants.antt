use Rattle.std.proofs.Common.{◌≡◌, ℕ, ◌<◌}
use Rattle.base_table.specs.Places.{named}
use Rattle.cube_laws.specs.Parting.{shared_by}
use Rattle.cube_laws.proofs.CallerLemmas.{entry}
use Rattle.class_builder.proofs.upper.first_new_value.Given as goal

abbrev pub invariant-dims : goal.invariant-dims
invariant-dims l = (j : ℕ) → j < l.i → entry (shared_by (named l.group.table.now l.group.rows.now)) j ≡ entry l.group.upper.now j
