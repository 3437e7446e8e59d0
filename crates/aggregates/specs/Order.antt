-- Ratios by value.
use Rattle.std.specs.declared.cmp.Ordering.{Ordering}
use Rattle.std.specs.Cmp.{IsTotalOrder}
use Rattle.cube_defs.specs.Answers.{fraction_cmp}
use Rattle.cube_laws.proofs.CallerLemmas.{value_total}
use Rattle.aggregates.specs.declared.fraction.Ratio.{Ratio}
use Rattle.aggregates.specs.Views.{ratio_in}

abbrev pub ratio_cmp : Ratio → Ratio → Ordering
ratio_cmp x y = fraction_cmp (ratio_in x) (ratio_in y)

pub ratio_total : IsTotalOrder ratio_cmp
ratio_total = value_total ratio_in (λ x. x.lowest.positive)
