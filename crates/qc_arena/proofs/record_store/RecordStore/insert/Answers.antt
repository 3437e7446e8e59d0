use Rattle.std.proofs.Common.{◌≡◌, ◌∙◌, Option, None, ap, arith, rules, subst, sym}
use Rattle.std.specs.Prelude.{IfSome}
use Rattle.slab.specs.Slab as slots
use Rattle.qc_arena.specs.KeptSlot.{Kept}
use Rattle.qc_arena.specs.Map.{Known}
use Rattle.qc_arena.specs.Records.{has_list, nodes_of}
use Rattle.qc_arena.proofs.Listed.{moved_listed, moved_others, no_list}
use Rattle.qc_arena.proofs.record_store.RecordStore.insert.Goals as goal

pub invariant_of-self-inside : goal.invariant_of-self-inside
invariant_of-self-inside c =
    let i = c.insert_reserved.ensures in
    let len = i.len in
    let lists = c.in-Ok.ensures.lists in
    let few = c.in-Ok.ensures.few in
    record {
      listed = moved_listed c.reserve_record.new.store.records c.insert_reserved.new.self c.reserve_record.new.store.lists
          c.insert_reserved.result i.updates.others c.reserve_record.new.store.listed (ap has_list i.was_vacant)
          (no_list _ (subst (λ (o : Option Kept). IfSome o (λ h. h.place ≡ None)) (sym i.updates.changed)
          c.copy.ensures.place)) (omega (arith, len, lists)) (omega (arith, len, few));
    }

pub returns-in-Ok-clause-others : goal.returns-in-Ok-clause-others
returns-in-Ok-clause-others c q n =
    let key = c.insert_reserved.ensures.key ∙ sym c.in-Ok.ensures.number in
    let same : slots.get (nodes_of c.reserve_record.new.store.records c.reserve_record.new.store.lists) q
    ≡ slots.get (nodes_of c.self.inside.held.records c.self.inside.held.lists) q = search rules in
    moved_others c.reserve_record.new.store.records c.insert_reserved.new.self c.reserve_record.new.store.lists
    c.insert_reserved.result c.insert_reserved.ensures.updates.others q (λ e. n (e ∙ key))
    ∙ same ∙ ap (λ (s : slots.Slab (Option Known)). slots.get s q) c.self.view_is
