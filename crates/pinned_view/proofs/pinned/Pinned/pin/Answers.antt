use Rattle.std.proofs.Common.{◌≡◌, ◌++◌, ◌∷◌, [], Err, Ok, ap, arith, subst, sym}
use Rattle.cube_defs.specs.Text.{Text}
use Rattle.pinned_view.specs.Pins.{ArePins, has_name}
use Rattle.pinned_view.specs.Refusals.{pin_refusal}
use Rattle.pinned_view.specs.Versions.{Version, Versions}
use Rattle.pinned_view.specs.declared.refused.PinRefused.TheVariants.{NameTaken, AllPinned}
use Rattle.std.specs.Prelude.{None}
use Rattle.std.specs.List.{find}
use Rattle.pinned_view.proofs.Refusing.{free, full, none_found, taken}
use Rattle.pinned_view.proofs.Staying.{one_more, pin_now}
use Rattle.pinned_view.proofs.pinned.Pinned.pin.Goals as goal

pub returns-then-is_some-clause-refused : goal.returns-then-is_some-clause-refused
returns-then-is_some-clause-refused c =
    let m = c.self.inside in
    subst (λ (v : Versions). Err NameTaken ≡ pin_refusal v.pins c.args.name.now) c.self.view_is
    (taken m.pins.items c.args.name.now c.pin_of.result c.pin_of.ensures (sym c.if-is_some.ensures))

pub returns-then-len-ge-MAX_PINS-clause-refused : goal.returns-then-len-ge-MAX_PINS-clause-refused
returns-then-len-ge-MAX_PINS-clause-refused c =
    let m = c.self.inside in
    subst (λ (v : Versions). Err AllPinned ≡ pin_refusal v.pins c.args.name.now) c.self.view_is
    (full m.pins.items c.args.name.now c.pin_of.result c.pin_of.ensures (sym c.if-is_some.ensures)
    (omega (arith, c.len.ensures, c.if-len-ge-MAX_PINS.true)))

pub returns-clause-refused : goal.returns-clause-refused
returns-clause-refused c =
    let m = c.self.inside in
    subst (λ (v : Versions). Ok tt ≡ pin_refusal v.pins c.args.name.now) c.self.view_is
    (free m.pins.items c.args.name.now c.pin_of.result c.pin_of.ensures (sym c.if-is_some.ensures)
    (omega (arith, c.len.ensures, c.if-len-ge-MAX_PINS.false)))

pub invariant_of-self : goal.invariant_of-self
invariant_of-self c =
    let m = c.self.inside in
    let pin = c.of-pin.result in
    let pushed : c.push.new.self.items ≡ m.pins.items ++ pin ∷ [] = rw c.unwrap.ensures at c.push.ensures.items in
    let name : pin.name.bytes ≡ c.args.name.now = ap (λ (v : Version). v.name) c.of-pin.ensures.version in
    let new = subst (λ (n : Text). find (has_name n) m.pins.items ≡ None) (sym name)
    (none_found m.pins.items c.args.name.now c.pin_of.result c.pin_of.ensures (sym c.if-is_some.ensures)) in
    let is = pin_now m.warehouse m.kept.items pin c.args.name.now c.of-pin.ensures.version
    (omega (arith, c.of-pin.ensures.from, c.len-2.ensures)) c.of-pin.ensures.root c.of-pin.ensures.stats
    c.of-pin.ensures.valid in (
      subst (ArePins m.warehouse m.kept.items) (sym pushed)
          (one_more m.warehouse m.kept.items m.pins.items pin new
          (omega (arith, c.len.ensures, c.if-len-ge-MAX_PINS.false)) (omega (arith, c.of-pin.ensures.from, c.len-2.ensures)) is
          c.self.invariant.0),
      omega (arith, c.push.ensures.capacity, c.self.invariant.1),
    )
