-- The order of an answer is total.
use Rattle.std.specs.Cmp.{IsTotalOrder, nat_cmp_total, on_total, then_total}
use Rattle.std.specs.Cmp.Lexicographic.{lists_total}
use Rattle.std.specs.FinMap.{nat_cmp-IsAntisymmetric, slice_cmp-IsAntisymmetric}
use Rattle.cube_laws.proofs.CallerLemmas.{cell_total, falling_total}
use Rattle.aggregates.specs.Order.{ratio_total}
use Rattle.std.specs.Prelude.{List}
use Rattle.cube_defs.specs.Text.{Text}
use Rattle.iceberg_query.specs.declared.ask.Bound.{Bound}
use Rattle.iceberg_query.specs.declared.ask.Bound.TheVariants as bounds
use Rattle.iceberg_query.specs.declared.hits.ValuedClass.{ValuedClass}
use Rattle.iceberg_query.specs.Order.{decoded_upper, valued_cmp}

pub valued_total : (lists : List (List Text)) (bound : Bound) → IsTotalOrder (valued_cmp lists bound)
valued_total lists bounds.AtLeast
    = then_total (falling_total (on_total (λ (v : ValuedClass). v.value) ratio_total))
    (on_total (decoded_upper lists)
    (cell_total (lists_total nat_cmp_total) (slice_cmp-IsAntisymmetric nat_cmp-IsAntisymmetric)))
valued_total lists bounds.AtMost
    = then_total (on_total (λ (v : ValuedClass). v.value) ratio_total)
    (on_total (decoded_upper lists)
    (cell_total (lists_total nat_cmp_total) (slice_cmp-IsAntisymmetric nat_cmp-IsAntisymmetric)))
