use Rattle.std.proofs.Common.{◌≡◌, ◌<◌, ℕ, None, get_or, is_some, true}
use Rattle.class_builder.proofs.prefix_nodes.is_full.Given as goal

abbrev pub invariant-dims : goal.invariant-dims
invariant-dims l = (k : ℕ) → k < l.i → is_some (get_or l.cell k None) ≡ true
