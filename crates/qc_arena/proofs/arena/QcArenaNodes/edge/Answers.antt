use Rattle.std.proofs.Common.{◌∙◌, ap, nat_cmp, sym}
use Rattle.std.specs.Ordering.{eq_by_cmp}
use Rattle.tree_laws.specs.Walk.{target_at}
use Rattle.qc_arena.specs.Map.{Arena, Known}
use Rattle.qc_arena.proofs.SlotMaps.{in_slot, record_seen}
use Rattle.qc_arena.proofs.arena.QcArenaNodes.edge.Goals as goal

pub edge-requires : goal.edge-requires
edge-requires g c = in_slot c.self.inside.nodes c.args.node.0 (ap (λ (v : Arena). v.now) c.self.view_is) c.requires

pub returns-clause-value : goal.returns-clause-value
returns-clause-value g c = c.edge.ensures.value
    ∙ sym (ap (λ (n : Known). target_at (eq_by_cmp nat_cmp) c.args.dim c.args.code n.edges)
    (record_seen c.self.inside.nodes c.args.node.0 (ap (λ (v : Arena). v.now) c.self.view_is)))
