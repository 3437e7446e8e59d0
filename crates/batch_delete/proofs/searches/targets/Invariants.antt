use Rattle.std.proofs.Common.{◌≡◌, ◌≤◌, ◌<◌, ◌+◌, ◌-◌, ℕ, None, Some, get_or, length, slice_get}
use Rattle.std.specs.Option.{option_map}
use Rattle.cube_defs.specs.Tree.{Edge}
use Rattle.qc_arena.specs.RecordReaders.{number, record_at}
use Rattle.batch_delete.specs.declared.searches.TheConstants.{SEARCHES}
use Rattle.batch_delete.specs.Searching.{target_in}
use Rattle.batch_delete.proofs.searches.targets.Given as goal

abbrev pub invariant-labels : goal.invariant-labels
invariant-labels g l = record {
  targets : (j : ℕ) (x : Edge ℕ ℕ) → l.fn.from + j < l.k
      → slice_get (record_at l.arena.now l.front.0).edges (l.fn.from + j) ≡ Some x
      → option_map number (get_or l.nodes j None) ≡ target_in l.dim x;
  long : length l.nodes ≡ SEARCHES;
  steps : l.steps ≤ l.fn.steps + (l.k - l.fn.from);
  from : l.fn.from ≤ l.k;
}
