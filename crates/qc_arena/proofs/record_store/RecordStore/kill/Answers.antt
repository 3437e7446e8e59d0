use Rattle.std.proofs.Common.{◌∙◌, Option, Some, ap}
use Rattle.slab.specs.Slab as slots
use Rattle.qc_arena.specs.KeptSlot.{Kept}
use Rattle.qc_arena.specs.Map.{Known}
use Rattle.qc_arena.specs.Records.{node_of}
use Rattle.qc_arena.proofs.Listed.{kept_here, kept_listed, kept_others}
use Rattle.qc_arena.proofs.record_store.RecordStore.kill.Goals as goal

pub invariant_of-self-inside : goal.invariant_of-self-inside
invariant_of-self-inside c =
    record {
      listed = kept_listed c.drop_edges.new.store.records c.drop_edges.new.store.lists c.drop_edges.new.store.listed c.args.node
          c.index_mut.result.now c.kill.new.self c.index_mut.ensures.value (ap (λ (h : Kept). h.place) c.kill.ensures);
    }

pub returns-clause-here : goal.returns-clause-here
returns-clause-here c =
    kept_here c.drop_edges.new.store.records c.drop_edges.new.store.lists c.drop_edges.new.store.listed c.args.node
    c.index_mut.result.now c.kill.new.self c.index_mut.ensures.value (ap (λ (h : Kept). h.place) c.kill.ensures)
    ∙ ap (λ (h : Kept). Some (node_of c.drop_edges.new.store.lists h)) c.kill.ensures

pub returns-clause-others : goal.returns-clause-others
returns-clause-others c q n =
    kept_others c.drop_edges.new.store.records c.drop_edges.new.store.lists c.drop_edges.new.store.listed c.args.node
    c.index_mut.result.now c.kill.new.self c.index_mut.ensures.value (ap (λ (h : Kept). h.place) c.kill.ensures) q n
    ∙ c.drop_edges.ensures.others q n ∙ ap (λ (s : slots.Slab (Option Known)). slots.get s q) c.self.view_is
