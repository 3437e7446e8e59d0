use Rattle.std.proofs.Common.{◌≡◌, ◌∙◌, ◌<◌, ap, length, slice_get, subst, sym, true, Some, ℕ}
use Rattle.qc_arena.specs.RecordReaders.{label_lt}
use Rattle.qc_arena.specs.Map.{Arena, Known}
use Rattle.qc_arena.proofs.SlotMaps.{in_slot, record_seen}
use Rattle.qc_arena.proofs.arena.QcArenaNodes.edge_count.Goals as goal

pub edge_count-requires : goal.edge_count-requires
edge_count-requires g c = in_slot c.self.inside.nodes c.args.node.0 (ap (λ (v : Arena). v.now) c.self.view_is) c.requires

pub returns-clause-value : goal.returns-clause-value
returns-clause-value g c = c.edge_count.ensures.value
    ∙ sym (ap (λ (n : Known). length n.edges)
    (record_seen c.self.inside.nodes c.args.node.0 (ap (λ (v : Arena). v.now) c.self.view_is)))

pub returns-clause-rising : goal.returns-clause-rising
returns-clause-rising g c =
    subst (λ (n : Known). (i j : ℕ) (e f : _) → i < j → slice_get n.edges i ≡ Some e → slice_get n.edges j ≡ Some f
    → label_lt e f ≡ true)
    (sym (record_seen c.self.inside.nodes c.args.node.0 (ap (λ (v : Arena). v.now) c.self.view_is)))
    c.edge_count.ensures.rising
