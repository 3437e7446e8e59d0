use Rattle.std.proofs.Common.{ap, sym, ◌∙◌, arith, refl}
use Rattle.std.specs.Option.{option_map}
use Rattle.std.proofs.lemmas.Int.{ints}
use Rattle.aggregates.specs.Views.{fraction_in}
use Rattle.aggregates.proofs.Reading.{fraction-from, is_short-unread, number-read}
use Rattle.aggregates.proofs.read.read_quotient.Goals as goal

pub returns-in_err-den : goal.returns-in_err-den
returns-in_err-den c =
    let e = is_short-unread 18 c.args.digits.now (omega arith) (omega arith) (sym c.in_err-den.ensures) in
    ap (λ o. option_map fraction_in o) c.from_residual.ensures ∙ rw e refl

pub invariant_of-result : goal.invariant_of-result
invariant_of-result c =
    let small = number-read 18 c.args.digits.now c.in_ok-den.den (omega arith) (sym c.in_ok-den.ensures) in
    record {
      in_range = fraction-from _ c.args.whole c.in_ok-den.den (omega (arith, ints)) (omega arith) small
          (omega arith);
    }
