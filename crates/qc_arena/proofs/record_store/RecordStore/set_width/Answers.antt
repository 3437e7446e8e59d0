use Rattle.std.proofs.Common.{◌∙◌, Option, ap, refl}
use Rattle.std.specs.Option.{option_map}
use Rattle.slab.specs.Slab as slots
use Rattle.qc_arena.specs.Resized.{resized}
use Rattle.qc_arena.specs.Inside.{join}
use Rattle.qc_arena.specs.KeptSlot.{Kept}
use Rattle.qc_arena.specs.Map.{Known}
use Rattle.qc_arena.specs.Records.{nodes_of}
use Rattle.qc_arena.proofs.Listed.{join_by, kept_by, kept_listed, kept_others}
use Rattle.qc_arena.proofs.record_store.RecordStore.set_width.Goals as goal

pub invariant_of-self-inside : goal.invariant_of-self-inside
invariant_of-self-inside c =
    record {
      listed = kept_listed c.self.inside.held.records c.self.inside.held.lists c.self.inside.held.listed c.args.node c.index_mut.result.now
          c.set_width.new.self c.index_mut.ensures.value (ap (λ (h : Kept). h.place) c.set_width.ensures);
    }

pub returns-clause-here : goal.returns-clause-here
returns-clause-here c =
    let by = kept_by c.self.inside.held.records c.self.inside.held.lists c.self.inside.held.listed c.args.node c.index_mut.result.now
    c.set_width.new.self c.index_mut.ensures.value (ap (λ (h : Kept). h.place) c.set_width.ensures)
    (resized c.args.dims) c.set_width.ensures (λ es n. refl) (λ n. refl) in
    join_by (resized c.args.dims) _ (slots.get (nodes_of c.self.inside.held.records c.self.inside.held.lists) c.args.node) by
    ∙ ap (λ (s : slots.Slab (Option Known)). option_map (resized c.args.dims) (join (slots.get s c.args.node))) c.self.view_is

pub returns-clause-others : goal.returns-clause-others
returns-clause-others c q n =
    kept_others c.self.inside.held.records c.self.inside.held.lists c.self.inside.held.listed c.args.node c.index_mut.result.now
    c.set_width.new.self c.index_mut.ensures.value (ap (λ (h : Kept). h.place) c.set_width.ensures) q n
    ∙ ap (λ (s : slots.Slab (Option Known)). slots.get s q) c.self.view_is
