-- What holds of each aggregate and of each fraction.
use Rattle.std.specs.Prelude.{◌≡◌, ℕ, ◌*◌, ◌^◌, ◌<◌, ◌≤◌, List, ℤ, pos, nat_abs, slice_index_or}
use Rattle.cube_defs.specs.Rows.{gcd}
use Rattle.aggregates.specs.declared.agg.Part.{Part}
use Rattle.cube_defs.specs.declared.limits.TheConstants.{MAX_AMOUNT, MAX_MEASURES, MAX_ROWS}

abbrev pub zero_part : Part
zero_part = record { sum = pos 0; least = pos 0; greatest = pos 0 }

pub record IsZero (part : Part) : Type 0 where
  pub sum : part.sum ≡ pos 0
  pub least : part.least ≡ pos 0
  pub greatest : part.greatest ≡ pos 0

-- it is that of 1 to 1,000,000 rows with at most four measures, of amounts that are not too large
pub record IsAggregate (count measures : ℕ) (parts : List Part) : Type 0 where
  pub some : 1 ≤ count
  pub few : count ≤ MAX_ROWS
  pub four : measures ≤ MAX_MEASURES
  pub sums : (k : ℕ) → nat_abs (slice_index_or parts k zero_part).sum ≤ count * MAX_AMOUNT
  pub unused : (k : ℕ) → measures ≤ k → IsZero (slice_index_or parts k zero_part)

-- the denominator is that of a value of an aggregate, and the terms are lowest
pub record IsRatio (num : ℤ) (den : ℕ) : Type 0 where
  pub positive : 0 < den
  pub small : den ≤ 10 ^ 12
  pub lowest : gcd (nat_abs num) den ≡ 1

-- cross products with an aggregate's value stay less than 10 ^ 37
pub record IsFraction (num : ℤ) (den : ℕ) : Type 0 where
  pub positive : 0 < den
  pub small : den < 10 ^ 18
  pub numerator : nat_abs num < 10 ^ 24
