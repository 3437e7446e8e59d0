use Rattle.std.proofs.Common.{◌≡◌, ◌≤◌, ◌<◌, ◌+◌, ℕ, true, false, Some, slice_get}
use Rattle.qc_arena.specs.Map.{frame, is_open, is_touched}
use Rattle.batch_delete.specs.declared.generalizing.NodeCell.{NodeCell}
use Rattle.batch_delete.proofs.generalizing.touch_all.Given as goal

abbrev pub invariant-nodes : goal.invariant-nodes
invariant-nodes g l = record {
  touched : (j : ℕ) (b : NodeCell) → j < l.k → slice_get l.list.items j ≡ Some b → is_touched l.arena b.node.0 ≡ true;
  only : (q : ℕ) → is_touched l.arena q ≡ true → is_touched l.fn.arena q ≡ false → (j : ℕ) × (b : NodeCell)
      × (slice_get l.list.items j ≡ Some b) × (b.node.0 ≡ q);
  now : l.arena.now ≡ l.fn.arena.now;
  opened : is_open l.arena ≡ true;
  width : l.arena.width ≡ l.fn.arena.width;
  frame : frame l.arena ≡ frame l.fn.arena;
  steps : l.steps ≤ l.fn.steps + l.k;
}
