use Rattle.std.proofs.Common.{refl}
use Rattle.qc_arena.proofs.Merges.{last_new, not_last}
use Rattle.qc_arena.specs.Entries.{all_new}
use Rattle.qc_arena.proofs.sorted_images.pop_added.Goals as goal

pub returns-then-added_end-node-clause-none : goal.returns-then-added_end-node-clause-none
returns-then-added_end-node-clause-none c
    = (
      refl,
      not_last (all_new c.args.added.now.items) c.added_end.result c.args.node c.requires.rising
          c.added_end.ensures.end c.requires.most c.if-added_end-node.true,
    )

pub returns-in-Some-clause-some : goal.returns-in-Some-clause-some
returns-in-Some-clause-some c
    = last_new c.args.added.now.items c.pop.new.self.items c.in-Some.field-0 c.args.node c.added_end.result
    c.added_end.ensures.end c.if-added_end-node.false c.in-Some.ensures.items
