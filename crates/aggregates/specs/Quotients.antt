-- Values of aggregates that are not yet in lowest terms.
use Rattle.std.specs.Prelude.{◌≡◌, ℕ, ◌*◌, ◌^◌, ◌<◌, ◌≤◌, ℤ}
use Rattle.cube_defs.specs.Answers.{value_of}
use Rattle.cube_defs.specs.Rows.{lowest_terms}
use Rattle.cube_defs.specs.declared.limits.TheConstants.{MAX_ROWS}
use Rattle.aggregates.specs.declared.agg.Agg.{Agg}
use Rattle.aggregates.specs.declared.kind.AggKind.{AggKind}
use Rattle.aggregates.specs.declared.kind.AggKind.TheVariants as kinds
use Rattle.aggregates.specs.Views.{agg_in, kind_in}

-- it is a number of rows
pub record IsDivisor (den : ℕ) : Type 0 where
  pub positive : 0 < den
  pub few : den ≤ MAX_ROWS

-- how many of the least units of a measure's amounts make one of its units; a count has no others
abbrev pub unit_of : AggKind → ℕ → ℕ
unit_of kinds.Count scale = 1
unit_of (kinds.Sum m) scale = 10 ^ scale
unit_of (kinds.Least m) scale = 10 ^ scale
unit_of (kinds.Greatest m) scale = 10 ^ scale
unit_of (kinds.Mean m) scale = 10 ^ scale

-- the quotient in the unit of each scale, in lowest terms, is the value of the kind
abbrev pub IsQuotient : AggKind → Agg → ℤ → ℕ → Type 0
IsQuotient kind agg num den = (scale : ℕ)
    → lowest_terms num (den * unit_of kind scale) ≡ value_of (kind_in kind) scale (agg_in agg)
