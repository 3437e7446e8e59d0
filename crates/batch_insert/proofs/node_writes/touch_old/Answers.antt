use Rattle.batch_insert.proofs.Keeping.{keeps_equal, keeps_touch, now_touched}
use Rattle.batch_insert.proofs.node_writes.touch_old.Goals as goal

pub returns-in-Ok-clause-keeps : goal.returns-in-Ok-clause-keeps
returns-in-Ok-clause-keeps g c
    = keeps_touch c.args.tuple.now c.args.arena.now c.touch.new.self c.args.node.0 c.requires.node c.in-Ok.ensures.now
    c.in-Ok.ensures.touched c.in-Ok.ensures.frame c.requires.opened

pub returns-in-Ok-clause-touched : goal.returns-in-Ok-clause-touched
returns-in-Ok-clause-touched g c = now_touched c.args.arena.now c.touch.new.self c.args.node.0 c.in-Ok.ensures.touched

pub returns-in-Err-clause-keeps : goal.returns-in-Err-clause-keeps
returns-in-Err-clause-keeps g c
    = keeps_equal c.args.tuple.now c.args.arena.now c.touch.new.self c.requires.opened c.in-Err.ensures.err
