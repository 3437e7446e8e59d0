use Rattle.std.proofs.Common.{◌≡◌, ℕ, ◌<◌, Option, get_or, is_some, length, true}
use Rattle.tree_tests.proofs.rows.tuple.Given as goal

abbrev pub invariant-dims : goal.invariant-dims
invariant-dims l = record {
  long : length l.cell ≡ l.dims;
  full : (k : ℕ) (d : Option ℕ) → k < l.dim → is_some (get_or l.cell k d) ≡ true;
}
