use Rattle.std.proofs.Common.{◌∙◌, ap, sym}
use Rattle.tree_laws.specs.Walk.{last_label}
use Rattle.qc_arena.specs.Map.{Arena, Known}
use Rattle.qc_arena.proofs.SlotMaps.{in_slot, record_seen}
use Rattle.qc_arena.proofs.arena.QcArenaNodes.end_of.Goals as goal

pub end_of-requires : goal.end_of-requires
end_of-requires g c = in_slot c.self.inside.nodes c.args.node.0 (ap (λ (v : Arena). v.now) c.self.view_is) c.requires

pub returns-clause-value : goal.returns-clause-value
returns-clause-value g c = c.end_of.ensures.value
    ∙ sym (ap (λ (n : Known). last_label n.cell)
    (record_seen c.self.inside.nodes c.args.node.0 (ap (λ (v : Arena). v.now) c.self.view_is)))
