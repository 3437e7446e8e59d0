-- When the aggregate of some rows without others of them is told by both.
use Rattle.std.specs.Prelude.{◌≡◌, ◌<◌, ◌≤◌, ◌*◌, ◌-◌, ℕ, false, nat_abs, slice_index_or}
use Rattle.std.specs.Int.Signed.{le_z}
use Rattle.std.specs.Prelude.{◌-ℤ◌}
use Rattle.aggregates.specs.Bounds.{zero_part}
use Rattle.aggregates.specs.declared.agg.Agg.{Agg}
use Rattle.aggregates.specs.declared.agg.Part.{Part}
use Rattle.cube_defs.specs.declared.limits.TheConstants.{MAX_AMOUNT}

-- the part has neither extreme of the whole, and the sums differ by no more than so many rows come to
pub record IsTold (w p : Part) (count : ℕ) : Type 0 where
  pub least : le_z p.least w.least ≡ false
  pub greatest : le_z w.greatest p.greatest ≡ false
  pub small : nat_abs (w.sum -ℤ p.sum) ≤ count * MAX_AMOUNT

-- so it is in all measures, and the part has fewer rows
pub record AreTold (w p : Agg) : Type 0 where
  pub measures : w.measures ≡ p.measures
  pub more : p.count < w.count
  pub told : (k : ℕ) → k < w.measures
      → IsTold (slice_index_or w.parts k zero_part) (slice_index_or p.parts k zero_part) (w.count - p.count)
