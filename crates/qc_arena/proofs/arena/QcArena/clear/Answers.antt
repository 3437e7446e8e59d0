use Rattle.std.proofs.Common.{◌∙◌, ap, arith, inl, inr}
use Rattle.std.proofs.lemmas.Bool.Decides.{eqb_tells}
use Rattle.std.specs.FinMap as map
use Rattle.qc_arena.specs.Map.{is_open}
use Rattle.qc_arena.proofs.SlotMaps.{all_out}
use Rattle.qc_arena.proofs.arena.QcArena.clear.Goals as goal

pub places-preserved : goal.places-preserved
places-preserved g c =
    let i = c.places.invariant in
    record {
      opened = ap is_open c.clear_place.ensures.frame ∙ i.opened;
      out = λ q h. elim (eqb_tells q c.places.place) [
        | inl e ↦ ap (map.get c.clear_place.new.self.now) e.1 ∙ c.in-Ok.ensures.here
        | inr e ↦ c.in-Ok.ensures.others q e.1 ∙ i.out q (omega (arith, h, e.1))
      ];
      none = λ q h. c.in-Ok.ensures.others q (omega (arith, h, c.places-test.true)) ∙ i.none q h;
      rest = c.clear_place.ensures.frame ∙ i.rest;
    }

pub returns-clause-none : goal.returns-clause-none
returns-clause-none g c
    = all_out c.places.self.now c.places.place c.places-place-end.result (omega (arith, c.places-test.false))
    c.places.invariant.out c.places.invariant.none
