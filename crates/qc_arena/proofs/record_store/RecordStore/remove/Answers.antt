use Rattle.std.proofs.Common.{◌∙◌, Option, ap, arith}
use Rattle.slab.specs.Slab as slots
use Rattle.qc_arena.specs.Map.{Known}
use Rattle.qc_arena.specs.Records.{has_list}
use Rattle.qc_arena.proofs.Listed.{moved_listed, moved_others, no_list}
use Rattle.qc_arena.proofs.record_store.RecordStore.remove.Goals as goal

pub invariant_of-self-inside : goal.invariant_of-self-inside
invariant_of-self-inside c =
    let r = c.remove.ensures in
    let len = r.len in
    let room = c.drop_edges.new.store.listed.room in
    let small = c.drop_edges.new.store.listed.small in
    record {
      listed = moved_listed c.drop_edges.new.store.records c.remove.new.self c.drop_edges.new.store.lists c.args.node r.updates.others
          c.drop_edges.new.store.listed (no_list _ c.drop_edges.ensures.unlisted)
          (ap has_list r.updates.changed) (omega (arith, len, room)) (omega (arith, len, small));
    }

pub returns-clause-others : goal.returns-clause-others
returns-clause-others c q n =
    moved_others c.drop_edges.new.store.records c.remove.new.self c.drop_edges.new.store.lists c.args.node
    c.remove.ensures.updates.others q n ∙ c.drop_edges.ensures.others q n
    ∙ ap (λ (s : slots.Slab (Option Known)). slots.get s q) c.self.view_is
