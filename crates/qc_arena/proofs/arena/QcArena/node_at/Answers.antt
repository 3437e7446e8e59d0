use Rattle.std.proofs.Common.{◌∙◌, ap, arith, is_some, refl, sym}
use Rattle.slab.specs.Slab as slots
use Rattle.qc_arena.specs.Inside.{join}
use Rattle.qc_arena.specs.Map.{Arena}
use Rattle.qc_arena.proofs.SlotMaps.{get_now, none_found, there}
use Rattle.qc_arena.proofs.TotalsSteps.{is_record}
use Rattle.qc_arena.proofs.arena.QcArena.node_at.Goals as goal

pub overflow_cast-result : goal.overflow_cast-result
overflow_cast-result c =
    let m = c.self.inside in
    let at = get_now m.nodes c.args.place
    ∙ is_record (join (slots.get m.nodes c.args.place)) (sym c.has.ensures ∙ c.if-has.true) in
    omega (arith, (c.self.invariant.is_kept.counted c.args.place _ at).number)

pub returns-then-has-clause-some : goal.returns-then-has-clause-some
returns-then-has-clause-some c = (
  refl,
  ap is_some (there c.self.inside.nodes c.args.place (ap (λ (v : Arena). v.now) c.self.view_is))
      ∙ sym c.has.ensures ∙ c.if-has.true,
)

pub returns-clause-none : goal.returns-clause-none
returns-clause-none c =
    there c.self.inside.nodes c.args.place (ap (λ (v : Arena). v.now) c.self.view_is)
    ∙ none_found _ (sym c.has.ensures ∙ c.if-has.false)
