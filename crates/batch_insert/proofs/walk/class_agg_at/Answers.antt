use Rattle.batch_insert.proofs.Turns.{class_none, class_some}
use Rattle.batch_insert.proofs.Reading.{class_there}
use Rattle.batch_insert.proofs.walk.class_agg_at.Goals as goal

pub returns-in-Some-clause-class : goal.returns-in-Some-clause-class
returns-in-Some-clause-class g c
    = class_there c.args.arena.now c.in-Some.at.0 c.class.result
    (rw c.in-Some.is at c.requires.node)
    c.class.ensures.value

pub returns-in-Some-clause-sum : goal.returns-in-Some-clause-sum
returns-in-Some-clause-sum g c
    = λ t k p f h. class_some k p c.in-Some.at _ f
    (rw c.in-Some.is at h) c.class.ensures.value

pub returns-in-None-clause-sum : goal.returns-in-None-clause-sum
returns-in-None-clause-sum g c
    = λ t k p f h. class_none k p _ (rw c.in-None.is at h)
