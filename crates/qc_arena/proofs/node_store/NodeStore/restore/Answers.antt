use Rattle.std.proofs.Common.{◌≡◌, ◌∙◌, List, Option, Some, ap, subst, sym}
use Rattle.std.specs.Prelude.{IfSome}
use Rattle.slab.specs.Slab as slots
use Rattle.aggregates.specs.declared.agg.Part.{Part}
use Rattle.qc_arena.specs.Inside.{join}
use Rattle.qc_arena.specs.Map.{Known}
use Rattle.qc_arena.specs.Parts.{IsShown, shown}
use Rattle.qc_arena.proofs.Stored.{put_stored}
use Rattle.qc_arena.proofs.node_store.NodeStore.restore.Goals as goal

pub invariant_of-self : goal.invariant_of-self
invariant_of-self c =
    let k = c.args.node in
    let r = c.put.new.self in
    put_stored c.self.inside.records c.restore.new.self c.self.inside.parts r k c.self.invariant
    c.restore.ensures.others c.put.ensures.others c.put.ensures.room
    (λ h. c.put.ensures.room k (c.self.invariant.room k
    (subst (λ (u : slots.Slab (Option Known)). slots.ContainsKey u k) (sym c.self.view_is) c.requires)))
    (λ n e.
    let both : Some c.args.was ≡ Some n =
    sym (ap join c.restore.ensures.here ∙ ap (λ (x : Known). Some x) c.split-record.ensures.record) ∙ e in
    let is : c.args.was ≡ n = cc in
    subst (λ (x : Known). IfSome x.class (λ a. IsShown (shown r k) a)) is
    (subst (λ (ps : List Part). IfSome c.args.was.class (λ a. IsShown ps a))
    (sym c.put.ensures.here) c.split-record.ensures.parts))
