use Rattle.std.proofs.Common.{◌≡◌, ◌≢◌, ◌<◌, ℕ, Some}
use Rattle.std.specs.FinMap as map
use Rattle.qc_arena.specs.Map.{AreRooted, Known}
use Rattle.tree_records.specs.Lines.{IsSmall, line_of}
use Rattle.tree_records.proofs.numbers_kept.has_cell.Given as goal

abbrev pub invariant-numbers : goal.invariant-numbers
invariant-numbers g l = AreRooted l.fn.tree.now → (k : ℕ) (n : Known) → k < l.number → map.get l.fn.tree.now k ≡ Some n
    → IsSmall n.cell → line_of n.cell ≢ l.fn.cell
