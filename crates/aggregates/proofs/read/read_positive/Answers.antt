use Rattle.std.proofs.Common.{ap, sym, ◌∙◌, arith}
use Rattle.std.specs.Option.{option_map}
use Rattle.aggregates.specs.Views.{fraction_in}
use Rattle.aggregates.proofs.Digits.{length-digits_prefix}
use Rattle.aggregates.proofs.Reading.{positive-large, positive-small, positive-tail}
use Rattle.aggregates.proofs.read.read_positive.Goals as goal

pub returns-in_err-whole : goal.returns-in_err-whole
returns-in_err-whole c = ap (λ o. option_map fraction_in o) c.from_residual.ensures
    ∙ sym (positive-large c.args.text.now c.in_err-whole.ensures)

pub slice_bounds-read_fraction_tail-count : goal.slice_bounds-read_fraction_tail-count
slice_bounds-read_fraction_tail-count c = omega (arith, c.in_ok-whole.ensures, length-digits_prefix c.args.text.now)

pub slice_bounds-read_fraction_tail-start : goal.slice_bounds-read_fraction_tail-start
slice_bounds-read_fraction_tail-start c = omega (arith, c.in_ok-whole.ensures, length-digits_prefix c.args.text.now)

pub read_fraction_tail-requires : goal.read_fraction_tail-requires
read_fraction_tail-requires c
    = positive-small c.args.text.now c.in_ok-whole.whole.len c.in_ok-whole.whole.value c.in_ok-whole.ensures.1
    c.in_ok-whole.ensures.0 (omega arith)

pub returns : goal.returns
returns c =
    c.read_fraction_tail.ensures
    ∙ sym (positive-tail c.args.text.now c.in_ok-whole.whole.len c.in_ok-whole.whole.value c.in_ok-whole.ensures.1
    c.in_ok-whole.ensures.0 (omega arith) (omega arith))
