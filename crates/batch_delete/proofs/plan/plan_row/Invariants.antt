use Rattle.std.proofs.Common.{◌≤◌, ◌+◌, ◌-◌, drop, length}
use Rattle.batch_delete.specs.Plan.{planning_cost}
use Rattle.batch_delete.specs.Rests.{ArePlanned}
use Rattle.batch_delete.proofs.plan.plan_row.Given as goal

abbrev pub ghost-node_plan_of : goal.ghost-node_plan_of
ghost-node_plan_of g a = g.d

abbrev pub invariant-nodes : goal.invariant-nodes
invariant-nodes g l = record {
  planned : ArePlanned g.d l.row.arena.now.now l.plan.entries l.list.items (length l.list.items - l.k);
  steps : l.steps ≤ l.fn.steps + planning_cost (length l.row.tuple.now) l.row.arena.now.now l.list.items
      (drop (length l.list.items - l.k) l.list.items);
}
