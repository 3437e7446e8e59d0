use Rattle.std.proofs.Common.{refl}
use Rattle.qc_arena.proofs.Merges.{last_is, not_last}
use Rattle.qc_arena.proofs.sorted_images.pop_changed.Goals as goal

pub returns-then-changed_end-node-clause-none : goal.returns-then-changed_end-node-clause-none
returns-then-changed_end-node-clause-none c
    = (
      refl,
      not_last c.args.changed.now.items c.changed_end.result c.args.node c.requires.rising
          c.changed_end.ensures.end c.requires.most c.if-changed_end-node.true,
    )

pub returns-in-Some-clause-some : goal.returns-in-Some-clause-some
returns-in-Some-clause-some c =
    last_is c.args.changed.now.items c.pop.new.self.items c.in-Some.field-0-0 c.in-Some.image c.args.node
    c.changed_end.result c.changed_end.ensures.end c.if-changed_end-node.false c.in-Some.ensures.items
