use Rattle.std.proofs.Common.{◌∙◌, sym}
use Rattle.batch_insert.proofs.Coming.{noted_here, noted_more}
use Rattle.batch_insert.proofs.Keeping.{keeps_same}
use Rattle.batch_insert.proofs.Reading.{ok_then}
use Rattle.batch_insert.proofs.nodes.add_planned_node.Goals as goal
use Rattle.qc_arena.proofs.CallerLemmas.{none_found}

pub returns-in-Some-clause-begun : goal.returns-in-Some-clause-begun
returns-in-Some-clause-begun g c
    = ok_then c.add_old.result
    (λ h a k b is. h a k b (none_found _ (sym c.has.ensures ∙ c.if-has.false)) is c.in-Some.is) c.add_old.ensures.begun

pub returns-in-None-clause-begun : goal.returns-in-None-clause-begun
returns-in-None-clause-begun g c
    = ok_then c.add_child_node.result
    (λ h a k b is. h a k b (none_found _ (sym c.has.ensures ∙ c.if-has.false)) is c.in-None.is)
    c.add_child_node.ensures.begun

pub returns-then-has-clause-keeps : goal.returns-then-has-clause-keeps
returns-then-has-clause-keeps g c = keeps_same c.args.tuple.now c.args.arena.now c.requires.repair.opened

pub returns-then-has-clause-begun : goal.returns-then-has-clause-begun
returns-then-has-clause-begun g c = λ a k b is. b

pub returns-in-Some-clause-known : goal.returns-in-Some-clause-known
returns-in-Some-clause-known g c
    = ok_then c.add_old.result (λ h. noted_here _ _ c.args.spot.mask
    (none_found _ (sym c.has.ensures ∙ c.if-has.false)) h) c.add_old.ensures.noted

pub returns-in-Some-clause-grows : goal.returns-in-Some-clause-grows
returns-in-Some-clause-grows g c
    = ok_then c.add_old.result (λ h. noted_more _ _ c.args.spot.mask
    (none_found _ (sym c.has.ensures ∙ c.if-has.false)) h) c.add_old.ensures.noted

pub returns-in-None-clause-known : goal.returns-in-None-clause-known
returns-in-None-clause-known g c
    = ok_then c.add_child_node.result (λ h. noted_here _ _ c.args.spot.mask
    (none_found _ (sym c.has.ensures ∙ c.if-has.false)) h) c.add_child_node.ensures.noted

pub returns-in-None-clause-grows : goal.returns-in-None-clause-grows
returns-in-None-clause-grows g c
    = ok_then c.add_child_node.result (λ h. noted_more _ _ c.args.spot.mask
    (none_found _ (sym c.has.ensures ∙ c.if-has.false)) h) c.add_child_node.ensures.noted

pub returns-then-has-clause-known : goal.returns-then-has-clause-known
returns-then-has-clause-known g c = sym c.has.ensures ∙ c.if-has.true

pub returns-then-has-clause-grows : goal.returns-then-has-clause-grows
returns-then-has-clause-grows g c = λ m k h. h

pub returns-in-Some-clause-keeps : goal.returns-in-Some-clause-keeps
returns-in-Some-clause-keeps g c = c.add_old.ensures.keeps

pub returns-in-Some-clause-repair : goal.returns-in-Some-clause-repair
returns-in-Some-clause-repair g c = c.add_old.ensures.repair

pub returns-in-Some-clause-steps : goal.returns-in-Some-clause-steps
returns-in-Some-clause-steps g c = c.add_old.ensures.steps

pub returns-in-None-clause-keeps : goal.returns-in-None-clause-keeps
returns-in-None-clause-keeps g c = c.add_child_node.ensures.keeps

pub returns-in-None-clause-repair : goal.returns-in-None-clause-repair
returns-in-None-clause-repair g c = c.add_child_node.ensures.repair

pub returns-in-None-clause-steps : goal.returns-in-None-clause-steps
returns-in-None-clause-steps g c = c.add_child_node.ensures.steps

pub returns-in-Some-clause-full : goal.returns-in-Some-clause-full
returns-in-Some-clause-full g c = λ h. absurd (c.add_old.ensures.fails h)

pub returns-in-None-clause-full : goal.returns-in-None-clause-full
returns-in-None-clause-full g c
    = λ h a k b is. c.add_child_node.ensures.full h a k b (none_found _ (sym c.has.ensures ∙ c.if-has.false))
    is c.in-None.is

pub add_child_node-requires : goal.add_child_node-requires
add_child_node-requires g c = c.requires

pub returns-then-has-clause-repair : goal.returns-then-has-clause-repair
returns-then-has-clause-repair g c = c.requires.repair
