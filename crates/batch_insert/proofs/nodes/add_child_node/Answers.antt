use Rattle.std.proofs.Common.{◌∙◌, arith, refl}
use Rattle.batch_insert.proofs.Reading.{same_error}
use Rattle.batch_insert.proofs.Counting.{spot_more}
use Rattle.batch_insert.proofs.Coming.{begun_spot_new}
use Rattle.batch_insert.specs.Numbered.{numbered}
use Rattle.batch_insert.proofs.Naming.{new_below, new_number, place_is, repair_more}
use Rattle.batch_insert.proofs.nodes.add_child_node.Goals as goal

pub returns-in-Ok-noted-clause-repair : goal.returns-in-Ok-noted-clause-repair
returns-in-Ok-noted-clause-repair g c =
    repair_more c.args.tuple.now c.args.arena.now c.add_new.new.arena _
    _ c.args.spot.mask c.in-Ok.node.0 c.in-Ok.ensures.keeps c.requires.repair
    (new_number c.args.tuple.now c.args.arena.now c.args.spot _ c.number_of-parent.result.0
    c.requires.repair.numbers c.number_of-parent.ensures c.requires.spot c.add_new.new.arena c.in-Ok.node.0
    c.tuple_code-code.result c.tuple_code-code.ensures.value c.in-Ok.ensures.here
    c.in-Ok.ensures.touched)
    c.in-Ok-noted.ensures.noted

pub returns-in-Ok-noted-clause-begun : goal.returns-in-Ok-noted-clause-begun
returns-in-Ok-noted-clause-begun g c = λ a k begun none is old.
    begun_spot_new k c.args.arena.now.now (numbered c.args.numbers.now)
    (numbered c.noted.new.numbers) c.args.spot c.in-Ok.node.0 c.number_of-parent.result.0 c.tuple_code-code.result
    c.add_new.new.arena.now begun none c.in-Ok-noted.ensures.noted is old
    c.number_of-parent.ensures c.tuple_code-code.ensures.value c.in-Ok.ensures.free c.in-Ok.ensures.here
    c.in-Ok.ensures.others

pub returns-in-Ok-noted-clause-noted : goal.returns-in-Ok-noted-clause-noted
returns-in-Ok-noted-clause-noted g c = (c.in-Ok.node.0, c.in-Ok-noted.ensures.noted)

pub returns-in-Err-clause-full : goal.returns-in-Err-clause-full
returns-in-Err-clause-full g c = λ h a k begun none is old.
    spot_more k c.args.arena.now.now (numbered c.args.numbers.now) c.args.spot c.args.arena.now.max
    begun none is old (c.add_new.ensures.full.0 (same_error c.add_new.result _ _ _ c.in-Err.is refl h))

pub tuple_code-code-requires : goal.tuple_code-code-requires
tuple_code-code-requires g c = record { no_any = c.requires.repair.no_any; dim = c.requires.spot.within }

pub returns-in-Err-clause-keeps : goal.returns-in-Err-clause-keeps
returns-in-Err-clause-keeps g c = c.add_new.ensures.keeps

pub returns-in-Ok-noted-clause-keeps : goal.returns-in-Ok-noted-clause-keeps
returns-in-Ok-noted-clause-keeps g c = c.in-Ok.ensures.keeps

pub returns-in-Err-noted-clause-keeps : goal.returns-in-Err-noted-clause-keeps
returns-in-Err-noted-clause-keeps g c = c.in-Ok.ensures.keeps

pub returns-in-Err-noted-clause-full : goal.returns-in-Err-noted-clause-full
returns-in-Err-noted-clause-full g c = λ h. absurd (c.noted.ensures.fails (c.in-Err-noted.is ∙ h))

pub returns-in-Ok-noted-clause-steps : goal.returns-in-Ok-noted-clause-steps
returns-in-Ok-noted-clause-steps g c = omega (arith, c.in-Ok.ensures.steps)

pub add_new-requires : goal.add_new-requires
add_new-requires g c = record {
  opened = c.requires.repair.opened;
  place = place_is c.args.tuple.now c.args.arena.now c.args.spot _
      c.number_of-parent.result.0 c.requires.repair.numbers c.number_of-parent.ensures c.requires.spot
      c.tuple_code-code.result c.tuple_code-code.ensures.small c.requires.repair.width;
  below = new_below c.args.tuple.now c.args.arena.now c.args.spot _
      c.number_of-parent.result.0 c.requires.repair.numbers c.number_of-parent.ensures c.requires.spot
      c.tuple_code-code.result c.tuple_code-code.ensures.value;
}
