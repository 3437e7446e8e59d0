use Rattle.std.proofs.Common.{length}
use Rattle.batch_insert.specs.Numbered.{numbered}
use Rattle.batch_insert.proofs.Each.{one_set}
use Rattle.batch_insert.specs.Planned.{CanSet}
use Rattle.batch_insert.proofs.Reading.{ok_then, one_of}
use Rattle.batch_insert.proofs.Keeping.{number_rewrite, number_there}
use Rattle.batch_insert.proofs.labels.set_tuple_label.Goals as goal

pub put_label-requires : goal.put_label-requires
put_label-requires g c =
    let can = one_of (λ x. CanSet (length c.args.tuple.now) (numbered c.args.numbers.now) x) _ c.requires.within in record {
      node = number_rewrite c.args.tuple.now c.args.arena.now _ _ _ c.requires.repair c.number_of-node.ensures;
      label = record {
        target = number_there c.args.tuple.now c.args.arena.now _ _ _ c.requires.repair.numbers c.number_of-target.ensures;
        dim = rw (← c.requires.repair.width) can.dim;
        code = c.tuple_code-code.ensures.small;
      };
    }

pub returns-clause-done : goal.returns-clause-done
returns-clause-done g c
    = ok_then c.put_label.result (λ h. one_set c.args.tuple.now _ c.args.arena.now.now c.put_label.new.arena.now
    c.args.own _ _ _ c.number_of-node.ensures c.number_of-target.ensures c.tuple_code-code.ensures.value h
    c.put_label.ensures.others) c.put_label.ensures.here

pub tuple_code-code-requires : goal.tuple_code-code-requires
tuple_code-code-requires g c =
    let can = one_of (λ x. CanSet (length c.args.tuple.now) (numbered c.args.numbers.now) x) _ c.requires.within in
    record { no_any = c.requires.repair.no_any; dim = can.dim }

pub returns-clause-keeps : goal.returns-clause-keeps
returns-clause-keeps g c = c.put_label.ensures.keeps
