use Rattle.std.proofs.Common.{ℕ, Some, slice_get, ◌<◌, ◌≢◌}
use Rattle.range_query.proofs.children.place_in.Given as goal

abbrev pub invariant-places : goal.invariant-places
invariant-places l = (j : ℕ) → j < l.k → slice_get l.codes j ≢ Some l.code
