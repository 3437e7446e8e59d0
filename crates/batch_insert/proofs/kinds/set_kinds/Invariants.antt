use Rattle.std.proofs.Common.{◌+◌, ◌*◌, ◌≤◌, length, take}
use Rattle.batch_insert.specs.Numbered.{numbered}
use Rattle.batch_insert.specs.Invariants.{KeepsNodes}
use Rattle.batch_insert.specs.Stages.{HaveEnded}
use Rattle.batch_insert.proofs.kinds.set_kinds.Given as goal

abbrev pub invariant-ends : goal.invariant-ends
invariant-ends g l = record {
  keeps : KeepsNodes l.row.tuple.now l.fn.arena l.arena;
  done : HaveEnded l.row.tuple.now l.row.amounts.now (numbered l.numbers) (take l.k l.ends) l.fn.arena.now l.arena.now;
  steps : l.steps ≤ l.fn.steps + 2 * length (take l.k l.ends);
}
