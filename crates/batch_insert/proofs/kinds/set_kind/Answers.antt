use Rattle.std.proofs.Common.{IsSome, arith, length}
use Rattle.cube_laws.proofs.CallerLemmas.{some_of}
use Rattle.batch_insert.specs.declared.plan.ForcedChild.{ForcedChild}
use Rattle.batch_insert.specs.declared.plan.NodeKind.{NodeKind}
use Rattle.batch_insert.specs.Planned.{CanEnd, IsForcedChild}
use Rattle.batch_insert.proofs.Reading.{one_of}
use Rattle.batch_insert.specs.Numbered.{numbered}
use Rattle.batch_insert.proofs.Each.{one_class, one_forced}
use Rattle.batch_insert.proofs.Keeping.{number_rewrite}
use Rattle.batch_insert.proofs.kinds.set_kind.Goals as goal

pub set_forced_child-requires : goal.set_forced_child-requires
set_forced_child-requires g c =
    let numbers = numbered c.args.numbers.now in
    let can = one_of (λ (x : NodeKind). CanEnd (length c.args.row.now.tuple.now) (length c.args.row.now.amounts.now)
    numbers x) c.args.end c.requires.ends in
    record {
      node = number_rewrite c.args.row.now.tuple.now c.args.arena.now numbers _ _ c.requires.repair
          c.number_of-node.ensures;
      dim = some_of (λ (f : ForcedChild). IsForcedChild (length c.args.row.now.tuple.now) f) c.args.end.forced
          c.in-Some.forcing c.in-Some.is can.kind.forced;
      child = some_of (λ (f : ForcedChild). IsSome (numbers f.child)) c.args.end.forced c.in-Some.forcing c.in-Some.is
          can.child;
    }

pub mark-requires : goal.mark-requires
mark-requires g c = number_rewrite c.args.row.now.tuple.now c.args.arena.now _ _ _
    c.requires.repair c.number_of-node.ensures

pub returns-in-Some-clause-done : goal.returns-in-Some-clause-done
returns-in-Some-clause-done g c
    = let h = c.set_forced_child.ensures.here in
    one_forced c.args.row.now.tuple.now _ c.args.arena.now.now
    c.set_forced_child.new.arena.now c.args.row.now.amounts.now c.args.end c.in-Some.forcing _ h.0 h.1 c.in-Some.is
    c.number_of-node.ensures h.2 h.3 h.4 c.set_forced_child.ensures.others

pub returns-in-None-clause-done : goal.returns-in-None-clause-done
returns-in-None-clause-done g c
    = one_class c.args.row.now.tuple.now _ c.args.arena.now.now c.mark.new.arena.now
    c.args.row.now.amounts.now c.args.end _ _ c.in-None.is c.number_of-node.ensures c.with_row-agg.ensures c.mark.ensures.here
    c.mark.ensures.others

pub returns-in-Some-clause-keeps : goal.returns-in-Some-clause-keeps
returns-in-Some-clause-keeps g c = c.set_forced_child.ensures.keeps

pub returns-in-None-clause-keeps : goal.returns-in-None-clause-keeps
returns-in-None-clause-keeps g c = c.mark.ensures.keeps

pub returns-in-Some-clause-steps : goal.returns-in-Some-clause-steps
returns-in-Some-clause-steps g c = omega (arith, c.set_forced_child.ensures.steps)
