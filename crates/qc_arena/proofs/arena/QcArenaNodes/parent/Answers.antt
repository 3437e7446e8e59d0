use Rattle.std.proofs.Common.{◌∙◌, ap, sym}
use Rattle.qc_arena.specs.Map.{Arena, Known}
use Rattle.qc_arena.proofs.SlotMaps.{in_slot, record_seen}
use Rattle.qc_arena.proofs.arena.QcArenaNodes.parent.Goals as goal

pub parent-requires : goal.parent-requires
parent-requires g c = in_slot c.self.inside.nodes c.args.node.0 (ap (λ (v : Arena). v.now) c.self.view_is) c.requires

pub returns-clause-value : goal.returns-clause-value
returns-clause-value g c = c.parent.ensures
    ∙ sym (ap (λ (n : Known). n.parent)
    (record_seen c.self.inside.nodes c.args.node.0 (ap (λ (v : Arena). v.now) c.self.view_is)))
