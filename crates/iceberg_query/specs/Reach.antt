-- What some of a class's rows can come to.
use Rattle.std.specs.Prelude.{ℕ, ◌<◌, ◌≤◌, Bool, ℤ, pos, ◌*ℤ◌}
use Rattle.std.specs.Int.{int_max, int_min}
use Rattle.std.specs.declared.cmp.Ordering.{Ordering}
use Rattle.std.specs.Ordering.{is_ge, is_le}
use Rattle.std.specs.Int.Signed.{◌≤ℤ◌}
use Rattle.cube_defs.specs.Rows.{Agg, Part}
use Rattle.cube_defs.specs.Answers as answers
use Rattle.cube_defs.specs.Answers.{part}
use Rattle.aggregates.specs.declared.kind.AggKind.{AggKind}
use Rattle.aggregates.specs.declared.kind.AggKind.TheVariants as kinds
use Rattle.iceberg_query.specs.declared.ask.Ask.{Ask}
use Rattle.iceberg_query.specs.declared.ask.Bound.{Bound}
use Rattle.iceberg_query.specs.declared.ask.Bound.TheVariants as bounds
use Rattle.iceberg_query.specs.Asked.{ask_in}

-- in one measure, what some rows come to, where all come to `whole`
pub record IsPartWithin (whole : Part) (count : ℕ) (some : Part) : Type 0 where
  pub least_low : whole.least ≤ℤ some.least
  pub least_high : some.least ≤ℤ whole.greatest
  pub greatest_low : whole.least ≤ℤ some.greatest
  pub greatest_high : some.greatest ≤ℤ whole.greatest
  pub sum_low : (whole.least *ℤ pos count) ≤ℤ some.sum
  pub sum_high : some.sum ≤ℤ (whole.greatest *ℤ pos count)

-- what some rows come to, of rows with so many measures that come to `whole`
pub record IsOfSome (measures : ℕ) (whole some : Agg) : Type 0 where
  pub any : 1 ≤ some.count
  pub few : some.count ≤ whole.count
  pub each : (m : ℕ) → m < measures → IsPartWithin (part whole m) some.count (part some m)

-- the kind that no amount's value is beyond, from the bound's side
abbrev pub outer : Bound → ℕ → AggKind
outer bounds.AtLeast m = kinds.Greatest m
outer bounds.AtMost m = kinds.Least m

abbrev pub farther : Bound → ℤ → ℤ → ℤ
farther bounds.AtLeast = int_max
farther bounds.AtMost = int_min

-- the sum of the measure passes
abbrev pub sum_passes : Ask → ℕ → Agg → Bool
sum_passes ask measure some = answers.passes_bound (record (ask_in ask) { kind = answers.Sum measure }) some

abbrev pub is_reached : Bound → Ordering → Bool
is_reached bounds.AtLeast o = is_ge o
is_reached bounds.AtMost o = is_le o
