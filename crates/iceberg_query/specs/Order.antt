-- The order of an answer.
use Rattle.std.specs.Prelude.{Bool, List}
use Rattle.std.specs.declared.cmp.Ordering.{Ordering}
use Rattle.std.specs.Ordering.{is_lt, ordering_then, ordering_reverse}
use Rattle.cube_defs.specs.Cell as defs
use Rattle.cube_defs.specs.Text.{Text, text_cmp}
use Rattle.aggregates.specs.Order.{ratio_cmp}
use Rattle.cube_laws.specs.Recoding.{coded_cell}
use Rattle.value_dict.specs.Recoded.{text_in}
use Rattle.iceberg_query.specs.declared.ask.Bound.{Bound}
use Rattle.iceberg_query.specs.declared.ask.Bound.TheVariants as bounds
use Rattle.iceberg_query.specs.declared.hits.ValuedClass.{ValuedClass}

-- falling for `AtLeast`, rising for `AtMost`
abbrev pub turned : Bound → Ordering → Ordering
turned bounds.AtLeast o = ordering_reverse o
turned bounds.AtMost o = o

-- a cell with the texts of its codes
abbrev pub decoded_upper : List (List Text) → ValuedClass → defs.Cell Text
decoded_upper lists v = coded_cell (text_in lists) 0 v.class.upper

abbrev pub valued_cmp : List (List Text) → Bound → ValuedClass → ValuedClass → Ordering
valued_cmp lists bound x y
    = ordering_then (turned bound (ratio_cmp x.value y.value))
    (defs.cell_cmp text_cmp (decoded_upper lists x) (decoded_upper lists y))

abbrev pub is_before : List (List Text) → Bound → ValuedClass → ValuedClass → Bool
is_before lists bound x y = is_lt (valued_cmp lists bound x y)
