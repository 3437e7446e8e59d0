use Rattle.std.proofs.Common.{◌≡◌, ◌<◌, ℕ, get_or, is_some, length, true, None}
use Rattle.table_tests.proofs.widths.tuple.Given as goal

abbrev pub invariant-dims : goal.invariant-dims
invariant-dims l = record {
  long : length l.tuple ≡ l.dims;
  full : (j : ℕ) → j < l.dim → is_some (get_or l.tuple j None) ≡ true;
}
