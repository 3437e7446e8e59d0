use Rattle.std.proofs.Common.{◌≡◌, ◌≢◌, ◌≤◌, ◌<◌, ◌+◌, ℕ, true, Some, length, take, slice_get}
use Rattle.std.specs.FinMap as map
use Rattle.std.specs.Option.{option_and_then}
use Rattle.std.specs.Prelude.{IsSome}
use Rattle.qc_arena.specs.Map.{frame, is_open, is_touched}
use Rattle.batch_delete.specs.declared.generalizing.NodeCell.{NodeCell}
use Rattle.batch_delete.specs.Plan.{Stays, outcome, rewriting_cost}
use Rattle.batch_delete.proofs.record_rewriting.rewrite_or_remove_all.Given as goal

abbrev pub invariant-nodes : goal.invariant-nodes
invariant-nodes g l = record {
  done : (j : ℕ) (b : NodeCell) → j < l.k → slice_get l.list.items j ≡ Some b
      → map.get l.arena.now b.node.0 ≡ option_and_then (outcome l.tuple l.plan.entries b)
      (map.get l.fn.arena.now b.node.0);
  others : (q : ℕ) → ((j : ℕ) (b : NodeCell) → j < l.k → slice_get l.list.items j ≡ Some b → b.node.0 ≢ q)
      → map.get l.arena.now q ≡ map.get l.fn.arena.now q;
  there : (t : ℕ) → IsSome (map.get l.fn.arena.now t) → Stays l.list.items l.plan.entries t
      → IsSome (map.get l.arena.now t);
  touched : (q : ℕ) → is_touched l.arena q ≡ is_touched l.fn.arena q;
  opened : is_open l.arena ≡ true;
  width : l.arena.width ≡ l.fn.arena.width;
  frame : frame l.arena ≡ frame l.fn.arena;
  steps : l.steps ≤ l.fn.steps + rewriting_cost (length l.tuple) l.fn.arena.now (take l.k l.list.items);
}
