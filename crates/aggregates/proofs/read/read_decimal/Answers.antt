use Rattle.std.proofs.Common.{◌+◌, ◌*◌, length, ap, sym, ◌∙◌, arith, refl}
use Rattle.std.specs.Option.{option_map}
use Rattle.std.proofs.lemmas.Int.{ints}
use Rattle.aggregates.specs.Views.{fraction_in}
use Rattle.cube_defs.specs.declared.limits.TheConstants.{MAX_SCALE}
use Rattle.aggregates.proofs.Reading.{fraction-from, is_short-unread, number-read, numerator-small}
use Rattle.aggregates.proofs.read.read_decimal.Goals as goal

pub returns-in_err-value : goal.returns-in_err-value
returns-in_err-value c =
    let e = is_short-unread MAX_SCALE c.args.places.now (omega arith) (omega arith) (sym c.in_err-value.ensures) in
    ap (λ o. option_map fraction_in o) c.from_residual.ensures ∙ rw e refl

pub numerator-requires : goal.numerator-requires
numerator-requires c =
    let n = length c.args.places.now in
    let small = number-read n c.args.places.now c.in_ok-value.value (omega arith) (sym c.in_ok-value.ensures) in
    numerator-small c.args.whole c.power_of_ten-den.result c.in_ok-value.value n c.requires
    (omega arith) c.power_of_ten-den.ensures.value small

pub invariant_of-result : goal.invariant_of-result
invariant_of-result c =
    let n = length c.args.places.now in
    let small = number-read n c.args.places.now c.in_ok-value.value (omega arith) (sym c.in_ok-value.ensures) in
    let fits = numerator-small c.args.whole c.power_of_ten-den.result c.in_ok-value.value n c.requires
    (omega arith) c.power_of_ten-den.ensures.value small in
    record {
      in_range = fraction-from _ (c.args.whole * c.power_of_ten-den.result + c.in_ok-value.value)
          c.power_of_ten-den.result (omega (arith, ints))
          c.power_of_ten-den.ensures.positive (omega (arith, c.power_of_ten-den.ensures.small)) fits;
    }
