use Rattle.std.proofs.Common.{◌∙◌, Option, ap, refl}
use Rattle.std.specs.Option.{option_map}
use Rattle.slab.specs.Slab as slots
use Rattle.qc_arena.specs.Inside.{join}
use Rattle.qc_arena.specs.KeptSlot.{Kept}
use Rattle.qc_arena.specs.Map.{Known, with_forced}
use Rattle.qc_arena.specs.RecordReaders.{edge_of}
use Rattle.qc_arena.specs.Records.{nodes_of}
use Rattle.qc_arena.proofs.Listed.{join_by, kept_by, kept_listed, kept_others}
use Rattle.qc_arena.proofs.record_store.RecordStore.set_forced.Goals as goal

pub invariant_of-self-inside : goal.invariant_of-self-inside
invariant_of-self-inside c =
    record {
      listed = kept_listed c.make_forceable.new.store.records c.make_forceable.new.store.lists c.make_forceable.new.store.listed c.args.node
          c.index_mut.result.now c.set_forced.new.self c.index_mut.ensures.value
          (ap (λ (h : Kept). h.place) c.set_forced.ensures);
    }

pub returns-clause-here : goal.returns-clause-here
returns-clause-here c =
    let f : Known → Known = with_forced (option_map edge_of c.args.forced) in
    let by = kept_by c.make_forceable.new.store.records c.make_forceable.new.store.lists c.make_forceable.new.store.listed c.args.node
    c.index_mut.result.now c.set_forced.new.self c.index_mut.ensures.value
    (ap (λ (h : Kept). h.place) c.set_forced.ensures) f c.set_forced.ensures (λ es n. refl) (λ n. refl) in
    join_by f _ (slots.get (nodes_of c.make_forceable.new.store.records c.make_forceable.new.store.lists) c.args.node) by
    ∙ ap (λ (o : Option (Option Known)). option_map f (join o)) (c.make_forceable.ensures.same c.args.node)
    ∙ ap (λ (s : slots.Slab (Option Known)). option_map f (join (slots.get s c.args.node))) c.self.view_is

pub returns-clause-others : goal.returns-clause-others
returns-clause-others c q n =
    kept_others c.make_forceable.new.store.records c.make_forceable.new.store.lists c.make_forceable.new.store.listed c.args.node
    c.index_mut.result.now c.set_forced.new.self c.index_mut.ensures.value
    (ap (λ (h : Kept). h.place) c.set_forced.ensures) q n
    ∙ c.make_forceable.ensures.same q ∙ ap (λ (s : slots.Slab (Option Known)). slots.get s q) c.self.view_is
