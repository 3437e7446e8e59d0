use Rattle.batch_insert.proofs.Keeping.{keeps_equal, keeps_label}
use Rattle.batch_insert.proofs.node_writes.put_label.Goals as goal

pub returns-in-Ok-clause-keeps : goal.returns-in-Ok-clause-keeps
returns-in-Ok-clause-keeps g c =
    keeps_label c.args.tuple.now c.args.arena.now c.set_edge.new.self c.args.node.0
    (record { dim = c.args.label.0; value = c.args.label.1; target = c.args.label.2.0 })
    c.requires.node.node c.requires.label.target c.requires.label.dim c.in-Ok.ensures.here c.in-Ok.ensures.others c.in-Ok.ensures.touched
    c.in-Ok.ensures.frame c.requires.node.change.opened

pub returns-in-Err-clause-keeps : goal.returns-in-Err-clause-keeps
returns-in-Err-clause-keeps g c
    = keeps_equal c.args.tuple.now c.args.arena.now c.set_edge.new.self c.requires.node.change.opened c.in-Err.ensures.err
