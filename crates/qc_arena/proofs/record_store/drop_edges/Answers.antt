use Rattle.std.proofs.Common.{◌∙◌, ℕ, [], Option, None, ap, sym}
use Rattle.qc_arena.specs.KeptSlot.{Kept, with_edges}
use Rattle.qc_arena.proofs.Listed.{kept_listed, kept_others, own_by, same_place}
use Rattle.qc_arena.proofs.record_store.drop_edges.Goals as goal

pub invariant_of-store : goal.invariant_of-store
invariant_of-store c =
    let none = same_place c.args.store.now.records c.args.node c.index.result.now c.index_mut.result.now c.index.ensures
    c.index_mut.ensures.value None c.in-None.ensures in
    record {
      listed = kept_listed c.args.store.now.records c.args.store.now.lists c.args.store.now.listed c.args.node c.index_mut.result.now
          c.clear_edges.new.self c.index_mut.ensures.value (ap (λ (h : Kept). h.place) c.clear_edges.ensures ∙ sym none);
    }

pub returns-in-None-clause-here : goal.returns-in-None-clause-here
returns-in-None-clause-here c =
    let none = same_place c.args.store.now.records c.args.node c.index.result.now c.index_mut.result.now c.index.ensures
    c.index_mut.ensures.value None c.in-None.ensures in
    own_by c.args.store.now.records c.args.store.now.lists c.args.store.now.listed c.args.node c.index_mut.result.now
    c.clear_edges.new.self c.index_mut.ensures.value (ap (λ (h : Kept). h.place) c.clear_edges.ensures ∙ sym none)
    (with_edges []) none (c.clear_edges.ensures ∙ sym (ap (λ (o : Option ℕ). record c.index_mut.result.now {
      node = with_edges [] c.index_mut.result.now.node;
      place = o;
    }) none))

pub returns-in-None-clause-others : goal.returns-in-None-clause-others
returns-in-None-clause-others c =
    let none = same_place c.args.store.now.records c.args.node c.index.result.now c.index_mut.result.now c.index.ensures
    c.index_mut.ensures.value None c.in-None.ensures in
    kept_others c.args.store.now.records c.args.store.now.lists c.args.store.now.listed c.args.node c.index_mut.result.now
    c.clear_edges.new.self c.index_mut.ensures.value (ap (λ (h : Kept). h.place) c.clear_edges.ensures ∙ sym none)
