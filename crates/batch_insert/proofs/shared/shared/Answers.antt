use Rattle.std.specs.Prelude.{false}
use Rattle.batch_insert.proofs.Climbing.{target_prefix, target_mask}
use Rattle.batch_insert.proofs.shared.shared.Goals as goal

pub returns-in-None-clause-mask : goal.returns-in-None-clause-mask
returns-in-None-clause-mask g c
    = target_prefix c.args.insertion.now.tuple.now c.args.insertion.now.arena.now.now c.args.dim c.prefix_mask.result
    false c.args.old c.in-None.is c.prefix_mask.ensures

pub returns-in-Some-clause-mask : goal.returns-in-Some-clause-mask
returns-in-Some-clause-mask g c
    = target_mask c.args.insertion.now.tuple.now c.args.insertion.now.arena.now.now c.args.dim c.common.result.0
    c.common.result.1 c.args.old c.in-Some.node c.in-Some.is c.common.ensures.shares
