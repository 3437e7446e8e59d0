use Rattle.std.proofs.Common.{◌≡◌, ◌∙◌, ◌≤◌, Option, ap, arith, is_some, subst, sym, true, ℕ}
use Rattle.std.specs.FinMap as map
use Rattle.std.specs.Option.{option_map}
use Rattle.slab.specs.Slab as slots
use Rattle.cube_defs.specs.Cell.{depth}
use Rattle.cube_defs.specs.Tree.{Tree}
use Rattle.qc_arena.specs.Inside.{join, now_of, was_of}
use Rattle.qc_arena.specs.Lowered.{HandsDown}
use Rattle.qc_arena.specs.Map.{Arena, Known, is_open}
use Rattle.qc_arena.specs.RecordReaders.{record_or}
use Rattle.qc_arena.proofs.ArenaSteps.{no_killed, same_slots_arena}
use Rattle.qc_arena.proofs.Handed.{closed_arena, handed_totals, hands_down, none_killed_still, not_killed_there, record_there}
use Rattle.qc_arena.proofs.Imaged.{is_begun}
use Rattle.qc_arena.proofs.SlotMaps.{in_slot, record_seen, same_now}
use Rattle.qc_arena.proofs.TotalsSteps.{edges_counted, edges_few}
use Rattle.qc_arena.proofs.arena.QcArena.hand_down.Goals as goal

pub hand_down_at-requires-clause-node : goal.hand_down_at-requires-clause-node
hand_down_at-requires-clause-node g c
    = in_slot c.self.inside.nodes c.args.node.0 (ap (λ (v : Arena). v.now) c.self.view_is) c.requires.there

pub hand_down_at-requires-clause-behind : goal.hand_down_at-requires-clause-behind
hand_down_at-requires-clause-behind g c
    = subst (λ (n : Known). depth n.cell ≤ c.args.dim)
    (record_seen c.self.inside.nodes c.args.node.0 (ap (λ (v : Arena). v.now) c.self.view_is)) c.requires.shallow

pub hand_down_at-requires-clause-dim : goal.hand_down_at-requires-clause-dim
hand_down_at-requires-clause-dim g c =
    let m = c.self.inside in
    let k = c.args.node.0 in
    let there_k = in_slot m.nodes k (ap (λ (v : Arena). v.now) c.self.view_is) c.requires.there in
    let long = c.self.invariant.is_kept.cells k (record_or (join (slots.get m.nodes k))).cell
    (ap (λ (o : Option Known). option_map (λ (n : Known). n.cell) o) (record_there m.nodes k there_k)) in
    let wide = ap (λ (v : Arena). v.width) c.self.view_is in
    omega (arith, long, wide, c.requires.within)

pub with_edges-self-inside-requires-clause-had : goal.with_edges-self-inside-requires-clause-had
with_edges-self-inside-requires-clause-had g c =
    let m = c.self.inside in
    let k = c.args.node.0 in
    let there_k = in_slot m.nodes k (ap (λ (v : Arena). v.now) c.self.view_is) c.requires.there in
    let counted = edges_counted m.dims m.max (now_of m.nodes) m.kept k (record_or (join (slots.get m.nodes k)))
    c.self.invariant.is_kept (record_there m.nodes k there_k) in
    omega (arith, counted, c.in-Ok.ensures.had, c.with_node-more.ensures.edges)

pub with_edges-self-inside-requires-clause-room : goal.with_edges-self-inside-requires-clause-room
with_edges-self-inside-requires-clause-room g c =
    let m = c.self.inside in
    let few = edges_few m.dims m.max (now_of m.nodes) m.kept c.self.invariant.is_kept c.self.invariant.few_nodes in
    omega (arith, few, c.with_node-more.ensures.edges)

pub invariant_of-self : goal.invariant_of-self
invariant_of-self g c =
    let m = c.self.inside in
    let is = c.self.invariant in
    let t = c.hand_down_at.new.nodes in
    let k = c.args.node.0 in
    let to = c.in-Ok.handed.child in
    let done = c.in-Ok.ensures in
    let now = ap (λ (v : Arena). v.now) c.self.view_is in
    let there_k = in_slot m.nodes k now c.requires.there in
    let n = record_or (join (slots.get m.nodes k)) in
    let same = record_seen m.nodes k now in
    let shut = sym (is_begun m.is_open m.dims (was_of (now_of m.nodes) m.images)) ∙ ap is_open c.self.view_is
    ∙ c.requires.closed in
    let none = none_killed_still m.nodes t k to (no_killed m.nodes m.images m.is_open is.in_slots shut)
    (not_killed_there _ _ done.here) (not_killed_there _ _ done.child) done.others in
    let wide = ap (λ (v : Arena). v.width) c.self.view_is in
    let most = ap (λ (v : Arena). v.max) c.self.view_is in
    let count = ap (λ (v : Arena). map.len v.now) c.self.view_is in
    let more = c.with_node-more.ensures in
    let after = c.with_edges-self-inside.ensures in
    closed_arena m.dims m.max t m.images m.is_open c.with_edges-self-inside.result is.few_dims is.few_nodes none
    (is.in_slots.closed shut)
    (handed_totals m.dims m.max (now_of m.nodes) (now_of t) m.kept c.with_edges-self-inside.result is.is_kept
    c.args.dim k n (record_there m.nodes k there_k) to
    (subst (λ (r : Known). is_some r.class ≡ true) same c.requires.class)
    (subst (λ (r : Known). depth r.cell ≤ c.args.dim) same c.requires.shallow)
    (omega (arith, wide, c.requires.within))
    (omega (arith, most, count, is.is_kept.nodes, c.requires.few)) (omega arith)
    (hands_down m.nodes t c.args.dim k to there_k done.here done.child done.free done.others)
    (after.root ∙ more.root) (omega (arith, after.nodes, more.nodes)) (omega (arith, after.classes, more.classes))
    (omega (arith, after.edges, more.edges, done.had, done.has)) (omega (arith, done.has, after.fits)))

pub invariant_of-self-in-Err : goal.invariant_of-self-in-Err
invariant_of-self-in-Err g c =
    let m = c.self.inside in
    let is = c.self.invariant in
    let t = c.hand_down_at.new.nodes in
    let shut = sym (is_begun m.is_open m.dims (was_of (now_of m.nodes) m.images)) ∙ ap is_open c.self.view_is
    ∙ c.requires.closed in
    same_slots_arena m.dims m.max m.nodes t m.images m.is_open m.kept m.was is c.in-Err.ensures.err

pub returns-in-Ok-clause-moved : goal.returns-in-Ok-clause-moved
returns-in-Ok-clause-moved g c =
    let m = c.self.inside in
    let now = ap (λ (v : Arena). v.now) c.self.view_is in
    let done = c.in-Ok.ensures in
    let t = c.hand_down_at.new.nodes in
    subst (λ (x : Tree ℕ). HandsDown c.args.dim c.args.node.0 x (now_of t) c.in-Ok.handed.child) now
    (hands_down m.nodes t c.args.dim c.args.node.0 c.in-Ok.handed.child (in_slot m.nodes c.args.node.0 now c.requires.there)
    done.here done.child done.free done.others)

pub returns-in-Err-clause-err : goal.returns-in-Err-clause-err
returns-in-Err-clause-err g c =
    same_now c.self.inside.nodes c.hand_down_at.new.nodes (λ q. ap join (c.in-Err.ensures.err q))
    ∙ ap (λ (v : Arena). v.now) c.self.view_is
