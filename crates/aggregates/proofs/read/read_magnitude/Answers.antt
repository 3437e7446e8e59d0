use Rattle.std.proofs.Common.{Some, None, sym, ◌∙◌, arith}
use Rattle.aggregates.proofs.Digits.{length-digits_prefix}
use Rattle.aggregates.proofs.Reading.{magnitude-large, magnitude-none, magnitude-tail, within-is, within-large}
use Rattle.aggregates.proofs.read.read_magnitude.Goals as goal
use Rattle.aggregates.proofs.read.read_magnitude.Goals.{then-whole-eq0-via-then-whole-eq0}
use Rattle.aggregates.proofs.read.read_magnitude.Goals.{then-whole-eq0-via-else-whole-eq0+then-whole-gt-MAX_AMOUNT}

pub returns-in_err-whole-clause-value : goal.returns-in_err-whole-clause-value
returns-in_err-whole-clause-value c = c.from_residual.ensures
    ∙ sym (magnitude-large c.args.text.now c.args.scale (omega (arith, c.in_err-whole.ensures)))

pub returns-then-whole-eq0-clause-value : goal.returns-then-whole-eq0-clause-value
returns-then-whole-eq0-clause-value c =
    elim c.then-whole-eq0.branch [
      | then-whole-eq0-via-then-whole-eq0 w
          ↦ sym (magnitude-none c.args.text.now c.args.scale (omega (arith, c.in_ok-whole.ensures)))
      | then-whole-eq0-via-else-whole-eq0+then-whole-gt-MAX_AMOUNT w
          ↦ sym (magnitude-large c.args.text.now c.args.scale (omega (arith, c.in_ok-whole.ensures)))
    ]

pub slice_bounds-read_tail-count : goal.slice_bounds-read_tail-count
slice_bounds-read_tail-count c = omega (arith, c.in_ok-whole.ensures, length-digits_prefix c.args.text.now)

pub slice_bounds-read_tail-start : goal.slice_bounds-read_tail-start
slice_bounds-read_tail-start c = omega (arith, c.in_ok-whole.ensures, length-digits_prefix c.args.text.now)

pub returns-in_err-units-clause-value : goal.returns-in_err-units-clause-value
returns-in_err-units-clause-value c =
    let e = magnitude-tail c.args.text.now c.in_ok-whole.whole.len c.in_ok-whole.whole.value c.in_ok-whole.ensures.1
    c.in_ok-whole.ensures.0
    c.args.scale c.power_of_ten.result None (omega arith) c.power_of_ten.ensures.value c.in_err-units.ensures.value in
    c.from_residual-in_err-units.ensures ∙ sym e

pub returns-then-units-gt-MAX_AMOUNT-clause-value : goal.returns-then-units-gt-MAX_AMOUNT-clause-value
returns-then-units-gt-MAX_AMOUNT-clause-value c =
    let e = magnitude-tail c.args.text.now c.in_ok-whole.whole.len c.in_ok-whole.whole.value c.in_ok-whole.ensures.1
    c.in_ok-whole.ensures.0
    c.args.scale c.power_of_ten.result (Some c.in_ok-units.field-0) (omega arith) c.power_of_ten.ensures.value
    c.in_ok-units.ensures.value in
    sym (e ∙ within-large _ c.if-units-gt-MAX_AMOUNT.true)

pub returns-clause-value : goal.returns-clause-value
returns-clause-value c =
    let e = magnitude-tail c.args.text.now c.in_ok-whole.whole.len c.in_ok-whole.whole.value c.in_ok-whole.ensures.1
    c.in_ok-whole.ensures.0
    c.args.scale c.power_of_ten.result (Some c.in_ok-units.field-0) (omega arith) c.power_of_ten.ensures.value
    c.in_ok-units.ensures.value in
    sym (e ∙ within-is _ c.if-units-gt-MAX_AMOUNT.false)
