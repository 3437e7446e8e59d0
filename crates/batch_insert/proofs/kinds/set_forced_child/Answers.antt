use Rattle.batch_insert.proofs.Keeping.{keeps_forced}
use Rattle.batch_insert.proofs.kinds.set_forced_child.Goals as goal

pub returns-clause-keeps : goal.returns-clause-keeps
returns-clause-keeps g c
    = keeps_forced c.args.row.now.tuple.now c.args.arena.now c.set_forced.new.self c.args.node.0 _ c.requires.node.node
    c.set_forced.ensures.here c.set_forced.ensures.others c.set_forced.ensures.touched c.set_forced.ensures.frame
    c.requires.node.change.opened
