use Rattle.batch_insert.proofs.Keeping.{keeps_equal, keeps_new, now_touched}
use Rattle.batch_insert.proofs.node_writes.add_new.Goals as goal

pub returns-in-Ok-clause-keeps : goal.returns-in-Ok-clause-keeps
returns-in-Ok-clause-keeps g c
    = keeps_new c.args.tuple.now c.args.arena.now c.add_node.new.self c.in-Ok.node.0 c.args.under c.in-Ok.ensures.free
    c.in-Ok.ensures.here c.requires.below c.in-Ok.ensures.others c.in-Ok.ensures.touched c.in-Ok.ensures.frame
    c.requires.opened

pub returns-in-Ok-clause-touched : goal.returns-in-Ok-clause-touched
returns-in-Ok-clause-touched g c
    = now_touched c.args.arena.now c.add_node.new.self c.in-Ok.node.0 c.in-Ok.ensures.touched

pub returns-in-Err-clause-keeps : goal.returns-in-Err-clause-keeps
returns-in-Err-clause-keeps g c
    = keeps_equal c.args.tuple.now c.args.arena.now c.add_node.new.self c.requires.opened c.in-Err.ensures.err
