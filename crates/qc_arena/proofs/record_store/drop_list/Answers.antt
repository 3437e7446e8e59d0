use Rattle.std.proofs.Common.{◌≡◌, Option, Some, subst}
use Rattle.std.specs.Prelude.{IfSome}
use Rattle.qc_arena.specs.KeptSlot.{Kept}
use Rattle.qc_arena.proofs.Listed.{dropped_here, dropped_listed, dropped_others}
use Rattle.qc_arena.proofs.record_store.drop_list.Goals as goal

pub invariant_of-store : goal.invariant_of-store
invariant_of-store c =
    let r = c.remove.ensures in
    record {
      listed = dropped_listed c.args.store.now.records c.args.store.now.lists c.remove.new.self c.args.store.now.listed
          c.args.node c.args.place c.index_mut.result.now c.clear_edges.new.self c.index_mut.ensures.value
          (subst (λ (o : Option Kept). IfSome o (λ h. h.place ≡ Some c.args.place)) c.index_mut.ensures.value
          c.requires.place) c.clear_edges.ensures r.updates r.len r.capacity;
    }

pub returns-clause-here : goal.returns-clause-here
returns-clause-here c =
    let r = c.remove.ensures in
    dropped_here c.args.store.now.records c.args.store.now.lists c.remove.new.self c.args.store.now.listed c.args.node c.args.place
    c.index_mut.result.now c.clear_edges.new.self c.index_mut.ensures.value
    (subst (λ (o : Option Kept). IfSome o (λ h. h.place ≡ Some c.args.place)) c.index_mut.ensures.value
    c.requires.place) c.clear_edges.ensures r.updates r.len r.capacity

pub returns-clause-others : goal.returns-clause-others
returns-clause-others c =
    let r = c.remove.ensures in
    dropped_others c.args.store.now.records c.args.store.now.lists c.remove.new.self c.args.store.now.listed c.args.node c.args.place
    c.index_mut.result.now c.clear_edges.new.self c.index_mut.ensures.value
    (subst (λ (o : Option Kept). IfSome o (λ h. h.place ≡ Some c.args.place)) c.index_mut.ensures.value
    c.requires.place) c.clear_edges.ensures r.updates r.len r.capacity
