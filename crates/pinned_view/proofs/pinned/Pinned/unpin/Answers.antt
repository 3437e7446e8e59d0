use Rattle.std.proofs.Common.{◌≡◌, ◌≤◌, ◌∙◌, List, None, ap, ap₂, arith, length, map, not, subst, sym}
use Rattle.std.specs.Prelude.{IsSome, filter}
use Rattle.std.specs.List.{AllByRecursion}
use Rattle.std.proofs.lemmas.List.Elements.{recursion_from_All}
use Rattle.qc_arena.specs.Map.{ImageMap}
use Rattle.pinned_view.specs.Past.{StoresNoMore}
use Rattle.pinned_view.specs.Pins.{ArePins, has_name, least_place, moved_back, version_in}
use Rattle.pinned_view.specs.Versions.{Version, Versions, version_of, without}
use Rattle.pinned_view.specs.declared.pins.Pin.{Pin}
use Rattle.pinned_view.proofs.Refusing.{found, missing}
use Rattle.pinned_view.proofs.Staying.{some_left, versions_left}
use Rattle.pinned_view.proofs.StoredNumbers.{stored_drop}
use Rattle.pinned_view.proofs.pinned.Pinned.unpin.Goals as goal

pub returns-then-is_none-clause-missing : goal.returns-then-is_none-clause-missing
returns-then-is_none-clause-missing c =
    let m = c.self.inside in
    subst (λ (v : Versions). version_of v.pins c.args.name.now ≡ None) c.self.view_is
    (missing m.pins.items c.args.name.now c.pin_of.result c.pin_of.ensures c.if-is_none.ensures)

pub invariant_of-self : goal.invariant_of-self
invariant_of-self c =
    let m = c.self.inside in
    let keeps = λ (pin : Pin). not (has_name c.args.name.now pin) in
    let len : c.len.result ≡ length m.kept.items = omega (arith, c.len.ensures) in
    let least = c.oldest-first.ensures.least ∙ ap₂ least_place len c.drop_named.ensures.items in
    let room = subst (AllByRecursion (λ (pin : Pin). c.oldest-first.result ≤ pin.from)) c.drop_named.ensures.items
    (recursion_from_All _ _ c.oldest-first.ensures.each) in
    let moved : c.shift_places.new.pins.items ≡ map (moved_back c.oldest-first.result) (filter keeps m.pins.items)
    = c.shift_places.ensures.items ∙ ap (map (moved_back c.oldest-first.result)) c.drop_named.ensures.items in (
      subst (λ (k : List ImageMap). ArePins m.warehouse k c.shift_places.new.pins.items) (sym c.drop_oldest.ensures)
          (subst (ArePins m.warehouse _) (sym moved)
          (some_left m.warehouse m.kept.items m.pins.items keeps c.oldest-first.result least room c.self.invariant.0)),
      omega (arith, c.shift_places.ensures.capacity, c.drop_named.ensures.capacity, c.self.invariant.1),
    )

pub returns-clause-found : goal.returns-clause-found
returns-clause-found c =
    let m = c.self.inside in
    subst (λ (v : Versions). IsSome (version_of v.pins c.args.name.now)) c.self.view_is
    (found m.pins.items c.args.name.now c.pin_of.result c.pin_of.ensures ∙ c.if-is_none.ensures)

pub returns-clause-ok : goal.returns-clause-ok
returns-clause-ok c =
    let m = c.self.inside in
    let keeps = λ (pin : Pin). not (has_name c.args.name.now pin) in
    let moved : c.shift_places.new.pins.items ≡ map (moved_back c.oldest-first.result) (filter keeps m.pins.items)
    = c.shift_places.ensures.items ∙ ap (map (moved_back c.oldest-first.result)) c.drop_named.ensures.items in
    subst (λ (v : Versions). record {
      now = m.warehouse;
      pins = map version_in c.shift_places.new.pins.items;
      stored = c.drop_oldest.new.kept.items;
    } ≡ record { now = v.now; pins = without v.pins c.args.name.now; stored = c.drop_oldest.new.kept.items }) c.self.view_is
    (ap (λ (vs : List Version). record { now = m.warehouse; pins = vs; stored = c.drop_oldest.new.kept.items })
    (ap (map version_in) moved ∙ versions_left c.oldest-first.result c.args.name.now m.pins.items))

pub returns-clause-stored : goal.returns-clause-stored
returns-clause-stored c =
    let m = c.self.inside in
    subst (λ (v : Versions). StoresNoMore v.stored c.drop_oldest.new.kept.items) c.self.view_is
    (subst (λ (k : List ImageMap). StoresNoMore m.kept.items k) (sym c.drop_oldest.ensures)
    (stored_drop c.oldest-first.result m.kept.items))
