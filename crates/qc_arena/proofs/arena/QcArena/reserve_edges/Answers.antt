use Rattle.std.proofs.Common.{◌∙◌, ap}
use Rattle.cube_defs.specs.Tree.{Tree}
use Rattle.qc_arena.specs.Map.{Arena}
use Rattle.qc_arena.specs.Inside.{begun, touched_in, was_of}
use Rattle.qc_arena.proofs.ArenaSteps.{same_arena}
use Rattle.qc_arena.proofs.SlotMaps.{in_slot, slots_same}
use Rattle.qc_arena.proofs.arena.QcArena.reserve_edges.Goals as goal

pub reserve_edges-requires : goal.reserve_edges-requires
reserve_edges-requires c
    = in_slot c.self.inside.nodes c.args.node.0 (ap (λ (v : Arena). v.now) c.self.view_is)
    c.requires

pub invariant_of-self : goal.invariant_of-self
invariant_of-self c =
    let m = c.self.inside in
    let t = c.reserve_edges.new.self in
    let k = c.args.node.0 in
    same_arena m.dims m.max m.nodes t m.images m.is_open m.kept m.was k c.self.invariant
    c.reserve_edges.ensures.there c.reserve_edges.ensures.here c.reserve_edges.ensures.others

pub returns : goal.returns
returns c =
    let m = c.self.inside in
    let same = slots_same m.nodes c.reserve_edges.new.self c.args.node.0 c.reserve_edges.ensures.here
    c.reserve_edges.ensures.others in
    let with : Tree _ → Arena
    = λ t. record {
      width = m.dims;
      max = m.max;
      now = t;
      was = begun m.is_open m.dims (was_of t m.images);
      touched = touched_in m.images;
      last = m.last;
    } in
    ap with same ∙ c.self.view_is
