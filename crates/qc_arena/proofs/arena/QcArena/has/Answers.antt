use Rattle.std.proofs.Common.{◌∙◌, ap, is_some, sym}
use Rattle.qc_arena.specs.Map.{Arena}
use Rattle.qc_arena.proofs.SlotMaps.{there}
use Rattle.qc_arena.proofs.arena.QcArena.has.Goals as goal

pub returns : goal.returns
returns c = c.has.ensures
    ∙ ap is_some (sym (there c.self.inside.nodes c.args.node.0 (ap (λ (v : Arena). v.now) c.self.view_is)))
