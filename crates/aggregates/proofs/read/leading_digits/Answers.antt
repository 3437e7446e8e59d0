use Rattle.std.proofs.Common.{arith}
use Rattle.aggregates.proofs.Digits.{number_after-more}
use Rattle.aggregates.proofs.read.leading_digits.Goals as goal

pub returns-in_err-checked_mul : goal.returns-in_err-checked_mul
returns-in_err-checked_mul c =
    let e = number_after-more c.digits.value _ c.args.text.now c.digits.byte-index (omega arith)
    (grind arith) c.digits.invariant.value in
    rw c.from_residual.ensures (omega (arith, e, c.in_err-checked_mul.ensures))

pub returns-in_err-value : goal.returns-in_err-value
returns-in_err-value c =
    let e = number_after-more c.digits.value _ c.args.text.now c.digits.byte-index (omega arith)
    (grind arith) c.digits.invariant.value in
    rw c.from_residual-in_err-value.ensures (omega (arith, e, c.in_err-value.ensures, c.in_ok-checked_mul.ensures))
