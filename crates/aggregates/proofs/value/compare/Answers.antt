use Rattle.std.proofs.Common.{arith}
use Rattle.std.proofs.lemmas.Int.{ints}
use Rattle.aggregates.proofs.Ratios.{small-product}
use Rattle.aggregates.proofs.value.compare.Goals as goal

pub cross-requires : goal.cross-requires
cross-requires c = small-product _ _ 9223372036854775808 999999999999999999 _ (omega (arith, ints, c.from.ensures))
    (omega (arith, c.args.b.now.in_range.small)) (omega arith)

pub cross-requires-2 : goal.cross-requires-2
cross-requires-2 c = small-product _ _ 999999999999999999999999 1000000000000 _
    (omega (arith, ints, c.args.b.now.in_range.numerator)) (omega (arith, c.args.a.now.lowest.small)) (omega arith)
