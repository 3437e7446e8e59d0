use Rattle.std.proofs.Common.{Option, subst, sym}
use Rattle.std.specs.Prelude.{IsSome}
use Rattle.slab.specs.Slab as slots
use Rattle.qc_arena.specs.Inside.{join}
use Rattle.qc_arena.specs.Map.{Known}
use Rattle.qc_arena.proofs.MovedClass.{class_stored}
use Rattle.qc_arena.proofs.node_store.NodeStore.set_class.Goals as goal

pub invariant_of-self : goal.invariant_of-self
invariant_of-self c =
    let k = c.args.node in
    class_stored c.self.inside.records c.set_class.new.self c.self.inside.parts c.put_class.new.self k c.args.class.now
    c.self.invariant
    (subst (λ (u : slots.Slab (Option Known)). IsSome (join (slots.get u k))) (sym c.self.view_is) c.requires)
    c.set_class.ensures.here c.set_class.ensures.others
    c.put_class.ensures.here c.put_class.ensures.others c.put_class.ensures.room
