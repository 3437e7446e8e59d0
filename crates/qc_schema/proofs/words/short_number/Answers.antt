use Rattle.std.proofs.Common.{◌≡◌, sym, arith, true, get_or}
use Rattle.std.specs.Char.{is_ascii_digit}
use Rattle.qc_schema.proofs.Numbers.{digit-from, small}
use Rattle.qc_schema.proofs.words.short_number.Goals as goal

pub overflow_mul-value : goal.overflow_mul-value
overflow_mul-value c = omega (
  arith,
  small c.loop-digit.value c.loop-digit.digit-index c.loop-digit.invariant.small
      (omega arith),
)

pub overflow_add-value : goal.overflow_add-value
overflow_add-value c =
    let digit : is_ascii_digit (get_or c.args.word.now c.loop-digit.digit-index 0) ≡ true
    = sym c.if-not-is_ascii_digit.ensures.value in
    let range = digit-from (get_or c.args.word.now c.loop-digit.digit-index 0) digit in
    omega (arith, range.1, small c.loop-digit.value c.loop-digit.digit-index c.loop-digit.invariant.small (omega arith))
