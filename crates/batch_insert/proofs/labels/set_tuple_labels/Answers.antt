use Rattle.batch_insert.proofs.Costed.{taken_le, taken_length}
use Rattle.std.proofs.Common.{length, arith}
use Rattle.std.proofs.lemmas.List.{take_all}
use Rattle.batch_insert.proofs.Doing.{set_none, set_next}
use Rattle.batch_insert.specs.Numbered.{numbered}
use Rattle.batch_insert.proofs.Keeping.{keeps_same, keeps_then, repair_then}
use Rattle.std.proofs.lemmas.List.Elements.{All-get_or}
use Rattle.batch_insert.specs.declared.plan.TupleLabel.{TupleLabel}
use Rattle.batch_insert.specs.Planned.{CanSet}
use Rattle.batch_insert.proofs.Reading.{all_one}
use Rattle.batch_insert.proofs.labels.set_tuple_labels.Goals as goal

pub set_tuple_label-requires : goal.set_tuple_label-requires
set_tuple_label-requires g c =
    let can = λ (x : TupleLabel). CanSet (length c.args.tuple.now) (numbered c.args.numbers.now) x in
    record {
      repair = repair_then c.args.tuple.now c.args.arena.now c.tuple_labels.arena _
          c.tuple_labels.invariant.keeps c.requires.repair;
      within = all_one can _
          (All-get_or can c.args.tuple_labels.now c.tuple_labels.k _ c.tuple_labels-test.true c.requires.within);
    }

pub returns-in-Err : goal.returns-in-Err
returns-in-Err g c = record {
  keeps
      = keeps_then c.args.tuple.now c.args.arena.now c.tuple_labels.arena c.set_tuple_label.new.arena
      c.tuple_labels.invariant.keeps c.in-Err.ensures.keeps;
  done = tt;
  steps = tt;
}

pub tuple_labels-preserved : goal.tuple_labels-preserved
tuple_labels-preserved g c = record {
  steps = omega (
    arith,
    c.tuple_labels.invariant.steps,
    c.in-Ok.ensures.steps,
    taken_length c.args.tuple_labels.now c.tuple_labels.k (record { mask = 0; dim = 0; target = 0 })
        c.tuple_labels-test.true,
  );
  keeps = keeps_then c.args.tuple.now c.args.arena.now c.tuple_labels.arena c.set_tuple_label.new.arena
      c.tuple_labels.invariant.keeps c.in-Ok.ensures.keeps;
  done = set_next c.args.tuple.now _ c.args.arena.now.now c.tuple_labels.arena.now
      c.set_tuple_label.new.arena.now c.args.tuple_labels.now c.tuple_labels.k _ c.tuple_labels-test.true
      c.tuple_labels.invariant.done c.in-Ok.ensures.done;
}

pub tuple_labels-init : goal.tuple_labels-init
tuple_labels-init g c = record {
  keeps = keeps_same c.args.tuple.now c.args.arena.now c.requires.repair.opened;
  done
      = set_none c.args.tuple.now _ c.args.arena.now.now;
  steps = omega arith;
}

pub returns-clause-done : goal.returns-clause-done
returns-clause-done g c
    = rw (← (take_all c.tuple_labels.k c.args.tuple_labels.now (omega (arith, c.tuple_labels-test.false)))) c.tuple_labels.invariant.done

pub returns-clause-steps : goal.returns-clause-steps
returns-clause-steps g c
    = omega (arith, c.tuple_labels.invariant.steps, taken_le c.args.tuple_labels.now c.tuple_labels.k)
