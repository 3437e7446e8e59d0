use Rattle.batch_insert.proofs.Costed.{taken_le, taken_length}
use Rattle.std.proofs.Common.{length, arith}
use Rattle.std.proofs.lemmas.List.{take_all}
use Rattle.std.proofs.lemmas.List.Elements.{All-get_or}
use Rattle.batch_insert.specs.declared.plan.NodeKind.{NodeKind}
use Rattle.batch_insert.specs.Planned.{CanEnd}
use Rattle.batch_insert.proofs.Reading.{all_one}
use Rattle.batch_insert.proofs.Doing.{ended_none, ended_next}
use Rattle.batch_insert.specs.Numbered.{numbered}
use Rattle.batch_insert.proofs.Keeping.{keeps_same, keeps_then, repair_then}
use Rattle.batch_insert.proofs.kinds.set_kinds.Goals as goal

pub set_kind-requires : goal.set_kind-requires
set_kind-requires g c =
    let can = λ (x : NodeKind). CanEnd (length c.args.row.now.tuple.now) (length c.args.row.now.amounts.now)
    (numbered c.args.numbers.now) x in
    record {
      repair = repair_then c.args.row.now.tuple.now c.args.arena.now c.ends.arena _
          c.ends.invariant.keeps c.requires.repair;
      ends = all_one can c.index-ends-k.result (rw c.index-ends-k.is (All-get_or can c.args.ends.now c.ends.k _ c.ends-test.true
          c.requires.ends));
    }

pub ends-preserved : goal.ends-preserved
ends-preserved g c = record {
  steps = omega (
    arith,
    c.ends.invariant.steps,
    c.set_kind.ensures.steps,
    taken_length c.args.ends.now c.ends.k c.index-ends-k.result c.ends-test.true,
  );
  keeps = keeps_then c.args.row.now.tuple.now c.args.arena.now c.ends.arena c.set_kind.new.arena c.ends.invariant.keeps
      c.set_kind.ensures.keeps;
  done = ended_next c.args.row.now.tuple.now _ c.args.arena.now.now c.ends.arena.now
      c.set_kind.new.arena.now c.args.row.now.amounts.now c.args.ends.now c.ends.k _ c.ends-test.true c.ends.invariant.done
      (rw c.index-ends-k.is at c.set_kind.ensures.done);
}

pub ends-init : goal.ends-init
ends-init g c = record {
  keeps = keeps_same c.args.row.now.tuple.now c.args.arena.now c.requires.repair.opened;
  done
      = ended_none c.args.row.now.tuple.now _ c.args.arena.now.now c.args.row.now.amounts.now;
  steps
      = omega arith;
}

pub returns-clause-done : goal.returns-clause-done
returns-clause-done g c
    = rw (← (take_all c.ends.k c.args.ends.now (omega (arith, c.ends-test.false)))) c.ends.invariant.done

pub returns-clause-steps : goal.returns-clause-steps
returns-clause-steps g c = omega (arith, c.ends.invariant.steps, taken_le c.args.ends.now c.ends.k)
