use Rattle.std.proofs.Common.{◌∙◌, ◌<◌, ap, length, slice_get, subst}
use Rattle.qc_arena.specs.Map.{Arena, Known}
use Rattle.qc_arena.proofs.SlotMaps.{in_slot, record_seen}
use Rattle.qc_arena.proofs.arena.QcArenaNodes.edge_at.Goals as goal

pub edge_at-requires-clause-there : goal.edge_at-requires-clause-there
edge_at-requires-clause-there g c
    = in_slot c.self.inside.nodes c.args.node.0 (ap (λ (v : Arena). v.now) c.self.view_is) c.requires.node

pub edge_at-requires-clause-within : goal.edge_at-requires-clause-within
edge_at-requires-clause-within g c =
    subst (λ (n : Known). c.args.k < length n.edges)
    (record_seen c.self.inside.nodes c.args.node.0 (ap (λ (v : Arena). v.now) c.self.view_is)) c.requires.k

pub returns-clause-value : goal.returns-clause-value
returns-clause-value g c =
    ap (λ (n : Known). slice_get n.edges c.args.k)
    (record_seen c.self.inside.nodes c.args.node.0 (ap (λ (v : Arena). v.now) c.self.view_is))
    ∙ c.edge_at.ensures.value
