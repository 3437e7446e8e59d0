use Rattle.std.proofs.Common.{◌≡◌, ℕ, ◌+◌, ◌-◌, ◌<◌, ◌≤◌, Some, length, slice_get}
use Rattle.cube_defs.specs.Tree.{Edge}
use Rattle.qc_arena.specs.RecordReaders.{record_at}
use Rattle.batch_delete.proofs.labels.first_label.Given as goal

abbrev pub invariant-halves : goal.invariant-halves
invariant-halves g l = record {
  from : l.fn.from ≤ l.first;
  within : l.end ≤ length (record_at l.arena.now l.node.0).edges;
  meets : l.first ≤ l.end;
  before : (k : ℕ) (x : Edge ℕ ℕ) → k < l.first → slice_get (record_at l.arena.now l.node.0).edges k ≡ Some x
      → x.dim < l.dim;
  behind : (k : ℕ) (x : Edge ℕ ℕ) → l.end ≤ k → slice_get (record_at l.arena.now l.node.0).edges k ≡ Some x
      → l.dim ≤ x.dim;
  steps : l.steps + (l.end - l.first) ≤ l.fn.steps + (1 + length (record_at l.arena.now l.node.0).edges);
}

abbrev pub decreases-halves : goal.decreases-halves
decreases-halves g l = l.end - l.first
