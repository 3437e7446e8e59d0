use Rattle.std.proofs.Common.{◌≡◌, ◌≤◌, ◌+◌, ◌-◌, ◌*◌, true}
use Rattle.std.specs.FinMap as map
use Rattle.std.specs.Option.{option_map}
use Rattle.qc_arena.specs.Map.{is_open}
use Rattle.batch_delete.specs.Plan.{ChangesOnly, heir_in, with_mixed}
use Rattle.batch_delete.proofs.Redirecting.{own_before}
use Rattle.batch_delete.proofs.record_rewriting.redirect_tuple_edges.Given as goal

abbrev pub invariant-dims : goal.invariant-dims
invariant-dims g l = record {
  here : map.get l.arena.now l.node.0 ≡ option_map (with_mixed (own_before l.tuple (heir_in l.plan.entries) l.dim) 0)
      (map.get l.fn.arena.now l.node.0);
  only : ChangesOnly l.node.0 l.fn.arena l.arena;
  opened : is_open l.arena ≡ true;
  width : l.arena.width ≡ l.fn.arena.width;
  from : l.fn.from ≤ l.dim;
  steps : l.steps ≤ l.fn.steps + 2 * (l.dim - l.fn.from);
}
