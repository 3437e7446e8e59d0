use Rattle.std.proofs.Common.{◌∙◌, ap, sym}
use Rattle.qc_arena.specs.Map.{Arena, Known}
use Rattle.qc_arena.proofs.SlotMaps.{in_slot, record_seen}
use Rattle.qc_arena.proofs.arena.QcArenaNodes.forced.Goals as goal

pub forced-requires : goal.forced-requires
forced-requires g c = in_slot c.self.inside.nodes c.args.node.0 (ap (λ (v : Arena). v.now) c.self.view_is) c.requires

pub returns-clause-value : goal.returns-clause-value
returns-clause-value g c = c.forced.ensures.value
    ∙ sym (ap (λ (n : Known). n.forced)
    (record_seen c.self.inside.nodes c.args.node.0 (ap (λ (v : Arena). v.now) c.self.view_is)))
