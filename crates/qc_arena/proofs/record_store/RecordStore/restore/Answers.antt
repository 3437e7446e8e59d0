use Rattle.std.proofs.Common.{◌≡◌, ◌∙◌, Option, None, ap, is_some, subst, sym}
use Rattle.std.specs.Prelude.{IfSome}
use Rattle.std.specs.Option.{option_map}
use Rattle.slab.specs.Slab as slots
use Rattle.qc_arena.specs.Inside.{join}
use Rattle.qc_arena.specs.KeptSlot.{Kept, with_edges}
use Rattle.qc_arena.specs.Map.{Known}
use Rattle.qc_arena.specs.RecordReaders.{record_or}
use Rattle.qc_arena.proofs.Listed.{bare_here, kept_listed, kept_others}
use Rattle.qc_arena.proofs.record_store.RecordStore.restore.Goals as goal

pub give_edges-requires-clause-node : goal.give_edges-requires-clause-node
give_edges-requires-clause-node c =
    ap (λ (o : Option (Option Known)). is_some (join o))
    (bare_here c.drop_edges.new.store.records c.drop_edges.new.store.lists c.drop_edges.new.store.listed c.args.node
    c.index_mut.result.now c.copy.result c.args.was.node c.index_mut.ensures.value c.drop_edges.ensures.unlisted
    c.copy.ensures.place c.copy.ensures.alive c.copy.ensures.node)

pub give_edges-requires-clause-none : goal.give_edges-requires-clause-none
give_edges-requires-clause-none c =
    ap (λ (o : Option (Option Known)). (record_or (join o)).edges)
    (bare_here c.drop_edges.new.store.records c.drop_edges.new.store.lists c.drop_edges.new.store.listed c.args.node
    c.index_mut.result.now c.copy.result c.args.was.node c.index_mut.ensures.value c.drop_edges.ensures.unlisted
    c.copy.ensures.place c.copy.ensures.alive c.copy.ensures.node)

pub invariant_of-self-inside : goal.invariant_of-self-inside
invariant_of-self-inside c =
    let none = subst (λ (o : Option Kept). IfSome o (λ h. h.place ≡ None)) c.index_mut.ensures.value
    c.drop_edges.ensures.unlisted in
    record {
      listed = kept_listed c.drop_edges.new.store.records c.drop_edges.new.store.lists c.drop_edges.new.store.listed c.args.node
          c.index_mut.result.now c.copy.result c.index_mut.ensures.value (c.copy.ensures.place ∙ sym none);
    }

pub returns-clause-here : goal.returns-clause-here
returns-clause-here c =
    c.give_edges.ensures.here ∙ ap (λ (o : Option (Option Known)). option_map (option_map (with_edges c.args.edges)) o)
    (bare_here c.drop_edges.new.store.records c.drop_edges.new.store.lists c.drop_edges.new.store.listed c.args.node
    c.index_mut.result.now c.copy.result c.args.was.node c.index_mut.ensures.value c.drop_edges.ensures.unlisted
    c.copy.ensures.place c.copy.ensures.alive c.copy.ensures.node)

pub returns-clause-others : goal.returns-clause-others
returns-clause-others c q n =
    let none = subst (λ (o : Option Kept). IfSome o (λ h. h.place ≡ None)) c.index_mut.ensures.value
    c.drop_edges.ensures.unlisted in
    c.give_edges.ensures.others q n
    ∙ kept_others c.drop_edges.new.store.records c.drop_edges.new.store.lists c.drop_edges.new.store.listed c.args.node
    c.index_mut.result.now c.copy.result c.index_mut.ensures.value (c.copy.ensures.place ∙ sym none) q n
    ∙ c.drop_edges.ensures.others q n ∙ ap (λ (s : slots.Slab (Option Known)). slots.get s q) c.self.view_is
