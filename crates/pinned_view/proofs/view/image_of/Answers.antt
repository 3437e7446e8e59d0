use Rattle.std.proofs.Common.{Some, None}
use Rattle.pinned_view.proofs.FirstImages.{not_gone, past_is}
use Rattle.pinned_view.proofs.view.image_of.Goals as goal

pub unreachable-requires : goal.unreachable-requires
unreachable-requires c = not_gone c.args.over.now c.args.tree.now.now c.args.node.0 c.in-Gone.ensures c.requires

pub returns-in-Same-clause-none : goal.returns-in-Same-clause-none
returns-in-Same-clause-none c = past_is c.args.over.now c.args.tree.now.now c.args.node.0 None c.in-Same.ensures

pub returns-in-Was-clause-some : goal.returns-in-Was-clause-some
returns-in-Was-clause-some c
    = past_is c.args.over.now c.args.tree.now.now c.args.node.0 (Some (Some c.in-Was.record.now)) c.in-Was.ensures
