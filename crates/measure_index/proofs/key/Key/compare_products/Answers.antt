use Rattle.std.proofs.Common.{arith}
use Rattle.std.proofs.lemmas.Int.{ints}
use Rattle.aggregates.proofs.CallerLemmas.{small-product}
use Rattle.measure_index.proofs.key.Key.compare_products.Goals as goal

pub times-value-requires : goal.times-value-requires
times-value-requires c =
    small-product _ _ 9223372036854775808 18446744073709551615 _ (omega (arith, ints, c.from.ensures))
    (omega arith) (omega arith)

pub times-other_value-requires : goal.times-other_value-requires
times-other_value-requires c
    = small-product _ _ 9223372036854775808 18446744073709551615 _ (omega (arith, ints, c.from-3.ensures))
    (omega arith) (omega arith)
