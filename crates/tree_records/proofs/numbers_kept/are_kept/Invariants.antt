use Rattle.std.proofs.Common.{◌≡◌, ◌<◌, ℕ, List, Option, Some, slice_get}
use Rattle.tree_records.specs.Twins.{AreBothRooted, KeepsNumber}
use Rattle.tree_records.proofs.numbers_kept.are_kept.Given as goal

abbrev pub invariant-numbers : goal.invariant-numbers
invariant-numbers g l = AreBothRooted l.fn.other.now l.fn.tree.now → (k : ℕ) (line : Option (List ℕ)) → k < l.number
    → slice_get l.fn.cells k ≡ Some line → KeepsNumber line l.fn.other.now l.fn.tree.now k
