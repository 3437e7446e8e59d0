use Rattle.std.proofs.Common.{◌+◌, ◌≤◌, length, take}
use Rattle.batch_insert.specs.Numbered.{numbered}
use Rattle.batch_insert.specs.Invariants.{KeepsNodes}
use Rattle.batch_insert.specs.Stages.{HaveSet}
use Rattle.batch_insert.proofs.labels.set_tuple_labels.Given as goal

abbrev pub invariant-tuple_labels : goal.invariant-tuple_labels
invariant-tuple_labels g l = record {
  keeps : KeepsNodes l.tuple l.fn.arena l.arena;
  done : HaveSet l.tuple (numbered l.numbers) (take l.k l.tuple_labels) l.fn.arena.now l.arena.now;
  steps : l.steps ≤ l.fn.steps + length (take l.k l.tuple_labels);
}
