use Rattle.std.proofs.Common.{◌∙◌, ap, arith}
use Rattle.qc_arena.specs.Inside.{join}
use Rattle.qc_arena.specs.Map.{Arena}
use Rattle.qc_arena.proofs.SlotMaps.{no_slot, there}
use Rattle.qc_arena.proofs.arena.QcArena.places.Goals as goal

pub returns : goal.returns
returns c = λ q h.
    there c.self.inside.nodes q (ap (λ (v : Arena). v.now) c.self.view_is)
    ∙ ap join (no_slot c.self.inside.nodes.slots q (omega (arith, h, c.capacity.ensures.slots)))
