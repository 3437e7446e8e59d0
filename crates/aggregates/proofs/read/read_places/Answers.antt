use Rattle.std.proofs.Common.{◌≡◌, ℕ, ◌+◌, ◌*◌, ◌/◌, get_or, arith, sym, ap, subst}
use Rattle.aggregates.proofs.Places.{AtPlace, place-start, place-step, place-bad, place-nonzero, place-end, place-room}
use Rattle.aggregates.proofs.read.read_places.Goals as goal
use Rattle.aggregates.proofs.read.read_places.Goals.{else-unit-eq0-via-then-unit-eq0+else-digit-ne0, else-unit-eq0-via-else-unit-eq0}

pub returns-then-not-is_ascii_digit-clause-value : goal.returns-then-not-is_ascii_digit-clause-value
returns-then-not-is_ascii_digit-clause-value c =
    sym (place-bad c.args.scale c.args.text.now c.places.byte-index c.places.value c.places.unit
    (omega arith) c.places.invariant (grind arith))

pub returns-then-digit-ne0-clause-value : goal.returns-then-digit-ne0-clause-value
returns-then-digit-ne0-clause-value c =
    sym (place-nonzero c.args.scale c.args.text.now c.places.byte-index c.places.value c.places.unit
    (omega arith) c.places.invariant c.if-unit-eq0.true (grind arith))

pub overflow_add-value : goal.overflow_add-value
overflow_add-value c =
    let e = place-room c.args.scale c.args.text.now c.places.byte-index c.places.value c.places.unit
    (omega arith) c.places.invariant (grind arith) in
    let d = c.from-digit.ensures in
    let p = ap (λ n. n * (c.places.unit / 10)) d in
    omega (arith, e, p)

pub places-init : goal.places-init
places-init c = place-start c.args.scale c.power_of_ten-unit.result c.args.text.now c.power_of_ten-unit.ensures.value

pub places-preserved : goal.places-preserved
places-preserved c =
    let zero_if : c.places.unit / 10 ≡ 0 → get_or c.args.text.now c.places.byte-index 0 ≡ 48 =
    λ u. elim c.else-unit-eq0.branch [
      | else-unit-eq0-via-then-unit-eq0+else-digit-ne0 w ↦ grind arith
      | else-unit-eq0-via-else-unit-eq0 w ↦ absurd (w.if-unit-eq0.false u)
    ]
    in
    let step = place-step c.args.scale c.args.text.now c.places.byte-index c.places.value c.places.unit
    (omega arith) c.places.invariant (grind arith) (grind arith) zero_if in
    let P : ℕ → Type 0 = λ n. AtPlace c.args.scale c.args.text.now (c.places.byte-index + 1)
    (c.places.value + n * (c.places.unit / 10)) (c.places.unit / 10) in
    subst P (sym c.from-digit.ensures) step

pub returns-clause-value : goal.returns-clause-value
returns-clause-value c =
    sym (place-end c.args.scale c.args.text.now c.places.byte-index c.places.value c.places.unit (omega arith)
    (grind arith) c.places.invariant)

pub returns-clause-small : goal.returns-clause-small
returns-clause-small c = omega (arith, c.places.invariant.room)
