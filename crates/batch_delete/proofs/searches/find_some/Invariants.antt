use Rattle.std.proofs.Common.{◌≡◌, ◌≤◌, ◌<◌, ◌+◌, ◌-◌, ◌*◌, ℕ, None, Some, get_or, slice_get}
use Rattle.std.specs.Option.{option_map}
use Rattle.cube_defs.specs.Tree.{Edge}
use Rattle.qc_arena.specs.RecordReaders.{number, record_at}
use Rattle.batch_delete.proofs.Searching.{come}
use Rattle.batch_delete.proofs.searches.find_some.Given as goal

abbrev pub invariant-dims : goal.invariant-dims
invariant-dims g l = record {
  come : (j : ℕ) (x : Edge ℕ ℕ) → l.fn.from + j < l.fn.until
      → slice_get (record_at l.arena.now l.fn.front.0).edges (l.fn.from + j) ≡ Some x
      → come g.d l.arena.now l.class.cell.now l.dim x l.next (option_map number (get_or l.nodes j None));
  after : l.dim < l.next;
  steps : l.steps ≤ l.fn.steps + ((l.fn.until - l.fn.from) + (l.fn.until - l.fn.from) * (2 * (l.next - l.dim - 1)));
}
