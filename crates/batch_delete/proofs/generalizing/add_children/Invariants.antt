use Rattle.std.proofs.Common.{◌≤◌, ◌+◌, ◌*◌}
use Rattle.batch_delete.specs.Generalizing.{AddsChildren}
use Rattle.batch_delete.proofs.generalizing.add_children.Given as goal

abbrev pub invariant-nodes : goal.invariant-nodes
invariant-nodes g l = record {
  grown : AddsChildren l.arena.now l.dim l.code l.fn.list.items l.k l.list.items;
  steps : l.steps ≤ l.fn.steps + 2 * l.k;
}
