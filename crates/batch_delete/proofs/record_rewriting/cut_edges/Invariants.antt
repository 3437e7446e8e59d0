use Rattle.std.proofs.Common.{◌≡◌, ◌≤◌, ◌+◌, ◌-◌, ◌*◌, length, true}
use Rattle.std.specs.FinMap as map
use Rattle.std.specs.Option.{option_map}
use Rattle.qc_arena.specs.Map.{is_open}
use Rattle.qc_arena.specs.RecordReaders.{record_at}
use Rattle.batch_delete.specs.Plan.{ChangesOnly, left_to, with_mixed}
use Rattle.batch_delete.proofs.record_rewriting.cut_edges.Given as goal

abbrev pub invariant-edges : goal.invariant-edges
invariant-edges g l = record {
  here : map.get l.arena.now l.node.0 ≡ option_map (with_mixed (left_to l.next) (l.many - l.k))
      (map.get l.fn.arena.now l.node.0);
  only : ChangesOnly l.node.0 l.fn.arena l.arena;
  opened : is_open l.arena ≡ true;
  steps : l.steps ≤ l.fn.steps + (2 + length (record_at l.fn.arena.now l.node.0).edges + 2 * l.k);
}
