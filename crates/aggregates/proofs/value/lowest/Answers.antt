use Rattle.std.proofs.Common.{ap, ◌∙◌, arith, pos, ℤ, w64}
use Rattle.std.specs.Prelude.{int_div}
use Rattle.std.proofs.lemmas.Int.{ints, to_z-of_z}
use Rattle.aggregates.proofs.Ratios.{ratio-from}
use Rattle.aggregates.proofs.value.lowest.Goals as goal

pub invariant_of-result-2 : goal.invariant_of-result-2
invariant_of-result-2 c =
    let g = c.greatest_common_divisor-divisor.result in
    record {
      lowest = ratio-from c.args.num c.divided.result _ c.args.den g c.requires.positive c.requires.small
          (grind arith)
          (c.divided.ensures ∙ ap (λ (z : ℤ). int_div z (pos g)) (to_z-of_z w64 c.args.num c.ranges.num))
          (omega (arith, ints));
    }
