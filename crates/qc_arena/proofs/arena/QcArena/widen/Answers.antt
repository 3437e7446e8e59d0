use Rattle.std.proofs.Common.{◌≡◌, ◌∙◌, ◌+◌, ◌≤◌, Some, ap, arith, refl, sym, ℕ}
use Rattle.std.specs.Option.{option_map}
use Rattle.slab.specs.Slab as slots
use Rattle.cube_defs.specs.Cell.{Cell, depth}
use Rattle.widen_laws.specs.Widened.{with_any_by_number}
use Rattle.qc_arena.specs.Map.{Arena, Known, is_open}
use Rattle.qc_arena.specs.Inside.{join, now_of, was_of}
use Rattle.qc_arena.proofs.ArenaSteps.{no_killed, resized_arena, resized_seen}
use Rattle.qc_arena.proofs.Imaged.{is_begun}
use Rattle.qc_arena.proofs.SizedMaps.{if_cell, kept_long}
use Rattle.qc_arena.proofs.Sizes.{depth_long}
use Rattle.qc_arena.proofs.SlotMaps.{get_now, there}
use Rattle.qc_arena.proofs.arena.QcArena.widen.Goals as goal

pub resize_all-requires-clause-none_killed : goal.resize_all-requires-clause-none_killed
resize_all-requires-clause-none_killed c =
    let m = c.self.inside in
    no_killed m.nodes m.images m.is_open c.self.invariant.in_slots
    (sym (is_begun m.is_open m.dims (was_of (now_of m.nodes) m.images)) ∙ ap is_open c.self.view_is ∙ c.requires.closed)

pub resize_all-requires-clause-deep : goal.resize_all-requires-clause-deep
resize_all-requires-clause-deep c = λ q.
    let m = c.self.inside in
    if_cell (join (slots.get m.nodes q)) (λ x. depth x ≤ m.dims + 1) (λ x e.
    let long = c.self.invariant.is_kept.cells q x (ap (option_map (λ (n : Known). n.cell)) (get_now m.nodes q) ∙ e) in
    let low = depth_long x in
    omega arith)

pub invariant_of-self : goal.invariant_of-self
invariant_of-self c =
    let m = c.self.inside in
    let shut = sym (is_begun m.is_open m.dims (was_of (now_of m.nodes) m.images)) ∙ ap is_open c.self.view_is
    ∙ c.requires.closed in
    let wide = ap (λ (v : Arena). v.width) c.self.view_is in
    resized_arena m.dims (m.dims + 1) m.max m.nodes c.resize_all.new.nodes m.images m.is_open m.kept m.was
    c.self.invariant shut (omega (arith, wide, c.requires.few)) (λ q x e.
    let long = c.self.invariant.is_kept.cells q x e in
    let low = depth_long x in
    omega arith) c.resize_all.ensures.nodes c.resize_all.ensures.none_killed

pub returns-clause-value : goal.returns-clause-value
returns-clause-value c =
    let m = c.self.inside in
    let t = c.resize_all.new.nodes in
    let shut = sym (is_begun m.is_open m.dims (was_of (now_of m.nodes) m.images)) ∙ ap is_open c.self.view_is
    ∙ c.requires.closed in
    resized_seen m.dims (m.dims + 1) m.max m.nodes t m.images m.is_open m.last shut
    ∙ ap (λ (v : Arena). record v { width = v.width + 1; now = now_of t }) c.self.view_is

pub returns-clause-nodes : goal.returns-clause-nodes
returns-clause-nodes c = λ q.
    let m = c.self.inside in
    let t = c.resize_all.new.nodes in
    let long = λ (x : Cell ℕ) (e : option_map (λ (n : Known). n.cell) (join (slots.get m.nodes q))
    ≡ Some x). c.self.invariant.is_kept.cells q x
    (ap (option_map (λ (n : Known). n.cell)) (get_now m.nodes q) ∙ e) in
    get_now t q ∙ c.resize_all.ensures.nodes q ∙ kept_long m.dims (m.dims + 1) (join (slots.get m.nodes q)) refl long
    ∙ ap (option_map with_any_by_number)
    (sym (there m.nodes q (ap (λ (v : Arena). v.now) c.self.view_is)))
