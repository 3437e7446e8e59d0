use Rattle.std.proofs.Common.{◌≡◌, ◌∙◌, Bool, None, Some, ap, arith, is_some, subst, sym, true≢false, ℕ}
use Rattle.std.specs.Prelude.{if◌then◌else◌}
use Rattle.std.specs.Option.{option_map}
use Rattle.slab.specs.Slab as slots
use Rattle.cube_defs.specs.Tree.{Tree}
use Rattle.qc_arena.specs.Inside.{join, now_of, was_of}
use Rattle.qc_arena.specs.Lowered.{TakesBack}
use Rattle.qc_arena.specs.Map.{Arena, Known, is_open}
use Rattle.qc_arena.specs.RecordReaders.{number, record_or}
use Rattle.qc_arena.proofs.ArenaSteps.{no_killed}
use Rattle.qc_arena.proofs.Handed.{back_totals, closed_arena, gone_totals, named_parent, none_killed_still, not_killed_gone}
use Rattle.qc_arena.proofs.Handed.{not_killed_there, record_there, takes_back}
use Rattle.qc_arena.proofs.Imaged.{is_begun}
use Rattle.qc_arena.proofs.SlotMaps.{in_slot, record_seen}
use Rattle.qc_arena.proofs.TotalsSteps.{class_counted, classes_few, edges_counted, edges_few, has_class, nodes_counted}
use Rattle.qc_arena.proofs.TotalsSteps.{off_removed}
use Rattle.qc_arena.proofs.arena.QcArena.take_back.Goals as goal

pub parent-requires : goal.parent-requires
parent-requires g c =
    in_slot c.self.inside.nodes c.args.child.0 (ap (λ (v : Arena). v.now) c.self.view_is) c.requires.child.1.there

pub unreachable-requires : goal.unreachable-requires
unreachable-requires g c =
    let m = c.self.inside in
    let now = ap (λ (v : Arena). v.now) c.self.view_is in
    let bad : None ≡ Some c.requires.child.0 = sym (ap (option_map number) c.in_default.is) ∙ c.parent.ensures
    ∙ ap (λ (n : Known). n.parent) (sym (record_seen m.nodes c.args.child.0 now)) ∙ c.requires.child.1.parent in
    absurd (true≢false (sym (ap is_some bad)))

pub returns-clause-parent : goal.returns-clause-parent
returns-clause-parent g c =
    let m = c.self.inside in
    let now = ap (λ (v : Arena). v.now) c.self.view_is in
    ap (λ (n : Known). n.parent) (record_seen m.nodes c.args.child.0 now) ∙ sym c.parent.ensures
    ∙ ap (option_map number) c.in-Some.is

pub take_back_at-back-requires-clause-child : goal.take_back_at-back-requires-clause-child
take_back_at-back-requires-clause-child g c =
    in_slot c.self.inside.nodes c.args.child.0 (ap (λ (v : Arena). v.now) c.self.view_is) c.requires.child.1.there

pub take_back_at-back-requires-clause-node : goal.take_back_at-back-requires-clause-node
take_back_at-back-requires-clause-node g c =
    let m = c.self.inside in
    let now = ap (λ (v : Arena). v.now) c.self.view_is in
    let is_child = named_parent c.args.self.now.now c.args.child.0 c.parent.result c.in-Some.node (record_or (join
    (slots.get m.nodes c.args.child.0)))
    c.in-Some.is c.parent.ensures (sym (record_seen m.nodes c.args.child.0 now)) c.requires.child in
    in_slot m.nodes c.in-Some.node.0 now is_child.above

pub take_back_at-back-requires-clause-apart : goal.take_back_at-back-requires-clause-apart
take_back_at-back-requires-clause-apart g c =
    let m = c.self.inside in
    let now = ap (λ (v : Arena). v.now) c.self.view_is in
    let is_child = named_parent c.args.self.now.now c.args.child.0 c.parent.result c.in-Some.node (record_or (join
    (slots.get m.nodes c.args.child.0)))
    c.in-Some.is c.parent.ensures (sym (record_seen m.nodes c.args.child.0 now)) c.requires.child in
    is_child.apart

pub without_node-less-requires-clause-nodes : goal.without_node-less-requires-clause-nodes
without_node-less-requires-clause-nodes g c =
    let m = c.self.inside in
    let now = ap (λ (v : Arena). v.now) c.self.view_is in
    let k = c.args.child.0 in
    let heir = record_or (join (slots.get m.nodes k)) in
    let at_heir = record_there m.nodes k (in_slot m.nodes k now c.requires.child.1.there) in
    nodes_counted m.dims m.max (now_of m.nodes) m.kept k heir c.self.invariant.is_kept at_heir

pub without_node-less-requires-clause-classes : goal.without_node-less-requires-clause-classes
without_node-less-requires-clause-classes g c =
    let m = c.self.inside in
    let now = ap (λ (v : Arena). v.now) c.self.view_is in
    let k = c.args.child.0 in
    let heir = record_or (join (slots.get m.nodes k)) in
    let at_heir = record_there m.nodes k (in_slot m.nodes k now c.requires.child.1.there) in
    λ e.
    let counted = class_counted m.dims m.max (now_of m.nodes) m.kept k heir c.self.invariant.is_kept at_heir in
    let one : has_class heir ≡ 1 = ap (λ (b : Bool). if b then 1 else 0)
    (sym c.take_back_at-back.ensures.child_is_class ∙ e) in
    omega (arith, counted, one)

pub without_node-less-requires-clause-edges : goal.without_node-less-requires-clause-edges
without_node-less-requires-clause-edges g c =
    let m = c.self.inside in
    let now = ap (λ (v : Arena). v.now) c.self.view_is in
    let k = c.args.child.0 in
    let heir = record_or (join (slots.get m.nodes k)) in
    let at_heir = record_there m.nodes k (in_slot m.nodes k now c.requires.child.1.there) in
    let counted = edges_counted m.dims m.max (now_of m.nodes) m.kept k heir c.self.invariant.is_kept at_heir in
    omega (arith, counted, c.take_back_at-back.ensures.child_edges)

pub with_class-moved-requires-clause-room : goal.with_class-moved-requires-clause-room
with_class-moved-requires-clause-room g c =
    let m = c.self.inside in
    let now = ap (λ (v : Arena). v.now) c.self.view_is in
    let is_child = named_parent c.args.self.now.now c.args.child.0 c.parent.result c.in-Some.node (record_or (join
    (slots.get m.nodes c.args.child.0)))
    c.in-Some.is c.parent.ensures (sym (record_seen m.nodes c.args.child.0 now)) c.requires.child in
    let k = c.args.child.0 in
    let heir = record_or (join (slots.get m.nodes k)) in
    let at_heir = record_there m.nodes k (in_slot m.nodes k now c.requires.child.1.there) in
    let p = c.in-Some.node.0 in
    let n = record_or (join (slots.get m.nodes p)) in
    let at = record_there m.nodes p (in_slot m.nodes p now is_child.above) in
    let less = c.without_node-less.ensures in
    let back = c.take_back_at-back.ensures in
    let is = gone_totals m.dims m.max (now_of m.nodes) m.kept c.without_node-less.result c.self.invariant.is_kept k heir
    at_heir c.take_back_at-back.result.child_is_class c.take_back_at-back.result.child_edges back.child_is_class
    back.child_edges less.root less.nodes less.classes less.edges in
    let still = off_removed (now_of m.nodes) k p is_child.apart ∙ at in
    let few = classes_few m.dims m.max _ c.without_node-less.result is in
    omega (arith, few, c.self.invariant.few_nodes)

pub with_class-moved-requires-clause-had : goal.with_class-moved-requires-clause-had
with_class-moved-requires-clause-had g c =
    let m = c.self.inside in
    let now = ap (λ (v : Arena). v.now) c.self.view_is in
    let is_child = named_parent c.args.self.now.now c.args.child.0 c.parent.result c.in-Some.node (record_or (join
    (slots.get m.nodes c.args.child.0)))
    c.in-Some.is c.parent.ensures (sym (record_seen m.nodes c.args.child.0 now)) c.requires.child in
    let k = c.args.child.0 in
    let heir = record_or (join (slots.get m.nodes k)) in
    let at_heir = record_there m.nodes k (in_slot m.nodes k now c.requires.child.1.there) in
    let p = c.in-Some.node.0 in
    let n = record_or (join (slots.get m.nodes p)) in
    let at = record_there m.nodes p (in_slot m.nodes p now is_child.above) in
    let less = c.without_node-less.ensures in
    let back = c.take_back_at-back.ensures in
    let is = gone_totals m.dims m.max (now_of m.nodes) m.kept c.without_node-less.result c.self.invariant.is_kept k heir
    at_heir c.take_back_at-back.result.child_is_class c.take_back_at-back.result.child_edges back.child_is_class
    back.child_edges less.root less.nodes less.classes less.edges in
    let still = off_removed (now_of m.nodes) k p is_child.apart ∙ at in
    λ e.
    let counted = class_counted m.dims m.max _ c.without_node-less.result p n is still in
    let one : has_class n ≡ 1 = ap (λ (b : Bool). if b then 1 else 0) (sym back.was_class ∙ e) in
    omega (arith, counted, one)

pub with_edges-self-inside-requires-clause-had : goal.with_edges-self-inside-requires-clause-had
with_edges-self-inside-requires-clause-had g c =
    let m = c.self.inside in
    let now = ap (λ (v : Arena). v.now) c.self.view_is in
    let is_child = named_parent c.args.self.now.now c.args.child.0 c.parent.result c.in-Some.node (record_or (join
    (slots.get m.nodes c.args.child.0)))
    c.in-Some.is c.parent.ensures (sym (record_seen m.nodes c.args.child.0 now)) c.requires.child in
    let k = c.args.child.0 in
    let heir = record_or (join (slots.get m.nodes k)) in
    let at_heir = record_there m.nodes k (in_slot m.nodes k now c.requires.child.1.there) in
    let p = c.in-Some.node.0 in
    let n = record_or (join (slots.get m.nodes p)) in
    let at = record_there m.nodes p (in_slot m.nodes p now is_child.above) in
    let less = c.without_node-less.ensures in
    let back = c.take_back_at-back.ensures in
    let is = gone_totals m.dims m.max (now_of m.nodes) m.kept c.without_node-less.result c.self.invariant.is_kept k heir
    at_heir c.take_back_at-back.result.child_is_class c.take_back_at-back.result.child_edges back.child_is_class
    back.child_edges less.root less.nodes less.classes less.edges in
    let still = off_removed (now_of m.nodes) k p is_child.apart ∙ at in
    let counted = edges_counted m.dims m.max _ c.without_node-less.result p n is still in
    omega (arith, counted, back.had, c.with_class-moved.ensures.edges)

pub with_edges-self-inside-requires-clause-room : goal.with_edges-self-inside-requires-clause-room
with_edges-self-inside-requires-clause-room g c =
    let m = c.self.inside in
    let now = ap (λ (v : Arena). v.now) c.self.view_is in
    let is_child = named_parent c.args.self.now.now c.args.child.0 c.parent.result c.in-Some.node (record_or (join
    (slots.get m.nodes c.args.child.0)))
    c.in-Some.is c.parent.ensures (sym (record_seen m.nodes c.args.child.0 now)) c.requires.child in
    let k = c.args.child.0 in
    let heir = record_or (join (slots.get m.nodes k)) in
    let at_heir = record_there m.nodes k (in_slot m.nodes k now c.requires.child.1.there) in
    let p = c.in-Some.node.0 in
    let n = record_or (join (slots.get m.nodes p)) in
    let at = record_there m.nodes p (in_slot m.nodes p now is_child.above) in
    let less = c.without_node-less.ensures in
    let back = c.take_back_at-back.ensures in
    let is = gone_totals m.dims m.max (now_of m.nodes) m.kept c.without_node-less.result c.self.invariant.is_kept k heir
    at_heir c.take_back_at-back.result.child_is_class c.take_back_at-back.result.child_edges back.child_is_class
    back.child_edges less.root less.nodes less.classes less.edges in
    let still = off_removed (now_of m.nodes) k p is_child.apart ∙ at in
    let few = edges_few m.dims m.max _ c.without_node-less.result is c.self.invariant.few_nodes in
    omega (arith, few, c.with_class-moved.ensures.edges)

pub invariant_of-self : goal.invariant_of-self
invariant_of-self g c =
    let m = c.self.inside in
    let now = ap (λ (v : Arena). v.now) c.self.view_is in
    let is_child = named_parent c.args.self.now.now c.args.child.0 c.parent.result c.in-Some.node (record_or (join
    (slots.get m.nodes c.args.child.0)))
    c.in-Some.is c.parent.ensures (sym (record_seen m.nodes c.args.child.0 now)) c.requires.child in
    let k = c.args.child.0 in
    let heir = record_or (join (slots.get m.nodes k)) in
    let at_heir = record_there m.nodes k (in_slot m.nodes k now c.requires.child.1.there) in
    let p = c.in-Some.node.0 in
    let n = record_or (join (slots.get m.nodes p)) in
    let at = record_there m.nodes p (in_slot m.nodes p now is_child.above) in
    let less = c.without_node-less.ensures in
    let back = c.take_back_at-back.ensures in
    let is = gone_totals m.dims m.max (now_of m.nodes) m.kept c.without_node-less.result c.self.invariant.is_kept k heir
    at_heir c.take_back_at-back.result.child_is_class c.take_back_at-back.result.child_edges back.child_is_class
    back.child_edges less.root less.nodes less.classes less.edges in
    let still = off_removed (now_of m.nodes) k p is_child.apart ∙ at in
    let t = c.take_back_at-back.new.nodes in
    let shut = sym (is_begun m.is_open m.dims (was_of (now_of m.nodes) m.images)) ∙ ap is_open c.self.view_is
    ∙ c.requires.closed in
    let arena = c.self.invariant in
    let none = none_killed_still m.nodes t p k (no_killed m.nodes m.images m.is_open arena.in_slots shut)
    (not_killed_there _ _ back.here) (not_killed_gone _ back.gone) back.others in
    let moved = c.with_class-moved.ensures in
    let after = c.with_edges-self-inside.ensures in
    let was : (if c.take_back_at-back.result.was_class then 1 else 0) ≡ has_class n
    = ap (λ (b : Bool). if b then 1 else 0) back.was_class in
    let has : (if c.take_back_at-back.result.child_is_class then 1 else 0) ≡ has_class heir
    = ap (λ (b : Bool). if b then 1 else 0) back.child_is_class in
    closed_arena m.dims m.max t m.images m.is_open c.with_edges-self-inside.result arena.few_dims arena.few_nodes none
    (arena.in_slots.closed shut)
    (back_totals m.dims m.max (now_of m.nodes) (now_of t) c.without_node-less.result c.with_edges-self-inside.result
    c.args.dim p k n heir at at_heir is_child.apart is
    (takes_back m.nodes t c.args.dim p k (in_slot m.nodes p now is_child.above) back.here back.gone back.others)
    (after.root ∙ moved.root) (after.nodes ∙ moved.nodes)
    (omega (arith, after.classes, moved.classes, was, has))
    (omega (arith, after.edges, moved.edges, back.had, back.has)) (omega (arith, back.has, after.fits)))

pub returns-clause-back : goal.returns-clause-back
returns-clause-back g c =
    let m = c.self.inside in
    let now = ap (λ (v : Arena). v.now) c.self.view_is in
    let is_child = named_parent c.args.self.now.now c.args.child.0 c.parent.result c.in-Some.node (record_or (join
    (slots.get m.nodes c.args.child.0)))
    c.in-Some.is c.parent.ensures (sym (record_seen m.nodes c.args.child.0 now)) c.requires.child in
    let p = c.in-Some.node.0 in
    let back = c.take_back_at-back.ensures in
    let t = c.take_back_at-back.new.nodes in
    subst (λ (x : Tree ℕ). TakesBack c.args.dim p x (now_of t) c.args.child.0) now
    (takes_back m.nodes t c.args.dim p c.args.child.0 (in_slot m.nodes p now is_child.above) back.here back.gone
    back.others)
