-- What the word of an aggregate makes of a measure, in the words of the definitions.
use Rattle.std.specs.Prelude.{ℕ}
use Rattle.cube_defs.specs.Answers.{AggKind, Greatest, Least, Mean, Sum}
use Rattle.query_script.specs.declared.iceberg.MeasureKind.{MeasureKind}
use Rattle.query_script.specs.declared.iceberg.MeasureKind.TheVariants as aggregates

-- the aggregates of a measure
abbrev pub make_of : MeasureKind → ℕ → AggKind
make_of aggregates.Sum = Sum
make_of aggregates.Least = Least
make_of aggregates.Greatest = Greatest
make_of aggregates.Mean = Mean
