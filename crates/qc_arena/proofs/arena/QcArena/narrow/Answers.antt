use Rattle.std.proofs.Common.{◌∙◌, ◌-◌, ◌≤◌, ap, arith, sym}
use Rattle.std.specs.Option.{option_map}
use Rattle.slab.specs.Slab as slots
use Rattle.cube_defs.specs.Cell.{depth}
use Rattle.cube_defs.specs.Tree.{cell_at}
use Rattle.qc_arena.specs.Map.{Arena, Known, is_open}
use Rattle.qc_arena.specs.Inside.{join, now_of, was_of}
use Rattle.qc_arena.specs.Resized.{resized}
use Rattle.qc_arena.proofs.ArenaSteps.{no_killed, resized_arena, resized_seen, shallow_cell}
use Rattle.qc_arena.proofs.Imaged.{is_begun}
use Rattle.qc_arena.proofs.SizedMaps.{if_cell}
use Rattle.qc_arena.proofs.SlotMaps.{get_now, there}
use Rattle.qc_arena.proofs.arena.QcArena.narrow.Goals as goal

pub resize_all-requires-clause-none_killed : goal.resize_all-requires-clause-none_killed
resize_all-requires-clause-none_killed c =
    let m = c.self.inside in
    no_killed m.nodes m.images m.is_open c.self.invariant.in_slots
    (sym (is_begun m.is_open m.dims (was_of (now_of m.nodes) m.images)) ∙ ap is_open c.self.view_is ∙ c.requires.closed)

pub resize_all-requires-clause-deep : goal.resize_all-requires-clause-deep
resize_all-requires-clause-deep c = λ q.
    let m = c.self.inside in
    if_cell (join (slots.get m.nodes q)) (λ x. depth x ≤ m.dims - 1) (λ x e.
    let a = c.args.self.now in
    let wide = ap (λ (v : Arena). v.width) c.self.view_is in
    let low = shallow_cell a c.requires.free q x (ap (λ (v : Arena). cell_at v.now q) (sym c.self.view_is)
    ∙ ap (option_map (λ (n : Known). n.cell)) (get_now m.nodes q) ∙ e) in
    omega (arith, low, wide))

pub invariant_of-self : goal.invariant_of-self
invariant_of-self c =
    let m = c.self.inside in
    let is = c.self.invariant in
    let shut = sym (is_begun m.is_open m.dims (was_of (now_of m.nodes) m.images)) ∙ ap is_open c.self.view_is
    ∙ c.requires.closed in
    let wide = ap (λ (v : Arena). v.width) c.self.view_is in
    let few = is.few_dims in
    resized_arena m.dims (m.dims - 1) m.max m.nodes c.resize_all.new.nodes m.images m.is_open m.kept m.was is shut
    (omega arith) (λ q x e.
    let low = shallow_cell c.args.self.now c.requires.free q x
    (ap (λ (v : Arena). cell_at v.now q) (sym c.self.view_is) ∙ e) in
    omega (arith, low, wide)) c.resize_all.ensures.nodes c.resize_all.ensures.none_killed

pub returns-clause-value : goal.returns-clause-value
returns-clause-value c =
    let m = c.self.inside in
    let t = c.resize_all.new.nodes in
    let shut = sym (is_begun m.is_open m.dims (was_of (now_of m.nodes) m.images)) ∙ ap is_open c.self.view_is
    ∙ c.requires.closed in
    resized_seen m.dims (m.dims - 1) m.max m.nodes t m.images m.is_open m.last shut
    ∙ ap (λ (v : Arena). record v { width = m.dims - 1; now = now_of t }) c.self.view_is

pub returns-clause-nodes : goal.returns-clause-nodes
returns-clause-nodes c = λ q.
    let m = c.self.inside in
    get_now c.resize_all.new.nodes q ∙ c.resize_all.ensures.nodes q
    ∙ ap (option_map (resized (m.dims - 1))) (sym (there m.nodes q (ap (λ (v : Arena). v.now) c.self.view_is)))
