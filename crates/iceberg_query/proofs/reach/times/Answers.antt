use Rattle.std.proofs.Common.{◌≤◌, ℤ, pos, negsuc, ◌∙◌, ◌^◌, arith, rules, w64}
use Rattle.std.specs.Int.{w128}
use Rattle.std.specs.Int.RustNames.{FitsSigned, unsigned_abs}
use Rattle.std.proofs.lemmas.Int.{fits_signed_mul, to_z-of_z}
use Rattle.iceberg_query.proofs.reach.times.Goals as goal

within : (z : ℤ) → FitsSigned w64 z → unsigned_abs z ≤ 2 ^ 63
within (pos n) fits = omega (arith, fits.sfits)
within (negsuc n) fits = omega (arith, fits.sfits)

pub overflow_mul-result : goal.overflow_mul-result
overflow_mul-result c =
    let amount = to_z-of_z w128 c.from.result (search rules) ∙ c.from.ensures
    ∙ to_z-of_z w64 c.args.amount c.ranges.amount in
    let count = to_z-of_z w128 c.from-2.result (search rules) ∙ c.from-2.ensures in
    rw (amount, count) (fits_signed_mul w128 c.args.amount (pos c.args.count) (2 ^ 63) (2 ^ 32)
    (within c.args.amount c.ranges.amount) (omega arith) (omega arith))
