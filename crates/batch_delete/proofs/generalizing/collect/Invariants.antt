use Rattle.std.proofs.Common.{◌≤◌, ◌+◌, ◌*◌, length}
use Rattle.batch_delete.specs.Generalizing.{AreGeneralizing}
use Rattle.batch_delete.proofs.generalizing.collect.Given as goal

abbrev pub invariant-dims : goal.invariant-dims
invariant-dims g l = record {
  below : AreGeneralizing l.arena.now l.tuple l.dim l.list.items;
  steps : l.steps ≤ l.fn.steps + (1 + l.dim * (2 * length l.list.items));
}
