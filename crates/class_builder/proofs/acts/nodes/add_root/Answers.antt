use Rattle.std.proofs.Common.{None, [], replicate}
use Rattle.class_builder.proofs.ActSteps.{more_next, root_made}
use Rattle.class_builder.proofs.acts.nodes.add_root.Goals as goal

pub returns-clause-made : goal.returns-clause-made
returns-clause-made g c =
    let e = c.add_node.ensures in
    root_made c.add_node.result c.args.arena.now c.add_node.new.self e.free e.here e.others e.touched e.frame

pub returns-clause-full : goal.returns-clause-full
returns-clause-full g c = λ full measures rows next. more_next measures rows (replicate c.args.arena.now.width None)
    [] c.args.arena.now next (c.add_node.ensures.full.0 full)
