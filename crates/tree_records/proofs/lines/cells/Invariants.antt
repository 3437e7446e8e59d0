use Rattle.std.proofs.Common.{◌≡◌, ℕ, List, Option, Some, length, slice_get}
use Rattle.qc_arena.specs.Map.{AreRooted}
use Rattle.tree_records.specs.Lines.{IsReadAs}
use Rattle.tree_records.proofs.lines.cells.Given as goal

abbrev pub invariant-numbers : goal.invariant-numbers
invariant-numbers g l = record {
  count : length l.cells.items ≡ l.number;
  read : AreRooted l.fn.tree.now → (k : ℕ) (read : Option (List ℕ)) → slice_get l.cells.items k ≡ Some read
      → IsReadAs l.fn.tree.now k read;
}
