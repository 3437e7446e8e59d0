use Rattle.std.proofs.Common.{◌≡◌, ◌≢◌, ◌∙◌, ◌≤◌, Bool, None, Option, Some, ap, arith, false, inl, inr, ltb-false, ltb-true, nat_lt, refl}
use Rattle.std.proofs.Common.{subst, sym, true, ℕ}
use Rattle.std.proofs.lemmas.Bool.Decides.{eqb_tells}
use Rattle.std.specs.Option.{option_map}
use Rattle.std.specs.Prelude.{IfSome}
use Rattle.slab.specs.Slab as slots
use Rattle.cube_defs.specs.Cell.{depth}
use Rattle.qc_arena.specs.Inside.{join}
use Rattle.qc_arena.specs.Map.{Known}
use Rattle.qc_arena.specs.Resized.{resized}
use Rattle.qc_arena.proofs.SlotMaps.{no_slot}
use Rattle.qc_arena.proofs.slots.resize_all.Goals as goal

pub set_width-requires-clause-deep : goal.set_width-requires-clause-deep
set_width-requires-clause-deep c =
    subst (λ (o : Option (Option Known)). IfSome (join o) (λ n. depth n.cell ≤ c.args.dims))
    (sym (c.places.invariant.rest c.places.place (omega arith))) (c.requires.deep c.places.place)

pub places-preserved : goal.places-preserved
places-preserved c =
    let i = c.places.invariant in
    let k = c.places.place in
    let new = c.set_width.new.self in
    let f : Option (Option Known) → Option Known = λ o. option_map (resized c.args.dims) (join o) in
    record {
      none_killed = λ q. elim (eqb_tells q k) [
        | inl e ↦ subst (λ (n : ℕ). slots.get new n ≢ Some None) (sym e.1) c.set_width.ensures.none_killed
        | inr e ↦ subst (λ (o : Option (Option Known)). o ≢ Some None) (sym (c.set_width.ensures.others q e.1))
            (i.none_killed q)
      ];
      done = λ q h. elim (eqb_tells q k) [
        | inl e ↦ ap (λ (n : ℕ). join (slots.get new n)) e.1 ∙ c.set_width.ensures.here ∙ ap f (i.rest k (omega arith))
            ∙ ap (λ (n : ℕ). f (slots.get c.args.nodes.now n)) (sym e.1)
        | inr e ↦ ap join (c.set_width.ensures.others q e.1) ∙ i.done q (omega (arith, h, e.1))
      ];
      rest = λ q h. c.set_width.ensures.others q (omega (arith, h)) ∙ i.rest q (omega (arith, h));
    }

pub returns-clause-nodes : goal.returns-clause-nodes
returns-clause-nodes c = λ q. at q (nat_lt q c.places.place) refl
  where
    at : (q : ℕ) (b : Bool) → nat_lt q c.places.place ≡ b
        → join (slots.get c.places.nodes q) ≡ option_map (resized c.args.dims) (join (slots.get c.args.nodes.now q))
    at q true e = c.places.invariant.done q (ltb-true q c.places.place e)
    at q false e =
        let past : c.places.place ≤ q = ltb-false q c.places.place e in
        let none = no_slot c.args.nodes.now.slots q
        (omega (arith, c.capacity-place-end.ensures.slots, c.places-test.false, past)) in
        ap join (c.places.invariant.rest q past) ∙ ap join none
        ∙ sym (ap (λ (o : Option (Option Known)). option_map (resized c.args.dims) (join o)) none)
