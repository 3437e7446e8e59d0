-- The notions that the types of this crate stand for.
use Rattle.std.specs.Prelude.{ℕ, Bool, true, false, ◌<◌, ◌==◌, map, take}
use Rattle.cube_defs.specs.Rows as defs
use Rattle.cube_defs.specs.Answers as answers
use Rattle.aggregates.specs.declared.agg.Part.{Part}
use Rattle.aggregates.specs.declared.agg.Agg.{Agg}
use Rattle.aggregates.specs.declared.kind.AggKind.{AggKind}
use Rattle.aggregates.specs.declared.kind.AggKind.TheVariants as kinds
use Rattle.aggregates.specs.declared.fraction.Ratio.{Ratio}
use Rattle.aggregates.specs.declared.fraction.Fraction.{Fraction}

abbrev pub part_in : Part → defs.Part
part_in p = record { sum = p.sum; least = p.least; greatest = p.greatest }

-- the aggregate of as many measures as it says
abbrev pub agg_in : Agg → defs.Agg
agg_in a = record { count = a.count; parts = map part_in (take a.measures a.parts) }

abbrev pub kind_in : AggKind → answers.AggKind
kind_in kinds.Count = answers.Count
kind_in (kinds.Sum m) = answers.Sum m
kind_in (kinds.Least m) = answers.Least m
kind_in (kinds.Greatest m) = answers.Greatest m
kind_in (kinds.Mean m) = answers.Mean m

-- the same aggregate of the same measure
abbrev pub same_kind : AggKind → AggKind → Bool
same_kind kinds.Count kinds.Count = true
same_kind (kinds.Sum m) (kinds.Sum n) = m == n
same_kind (kinds.Least m) (kinds.Least n) = m == n
same_kind (kinds.Greatest m) (kinds.Greatest n) = m == n
same_kind (kinds.Mean m) (kinds.Mean n) = m == n
same_kind j k = false

-- the measure that is asked for, if one is, is one of so many
abbrev pub IsThere : ℕ → AggKind → Type 0
IsThere measures kinds.Count = Unit {0}
IsThere measures (kinds.Sum m) = m < measures
IsThere measures (kinds.Least m) = m < measures
IsThere measures (kinds.Greatest m) = m < measures
IsThere measures (kinds.Mean m) = m < measures

abbrev pub ratio_in : Ratio → defs.Fraction
ratio_in r = record { num = r.num; den = r.den }

abbrev pub fraction_in : Fraction → defs.Fraction
fraction_in f = record { num = f.num; den = f.den }
