use Rattle.std.proofs.Common.{◌≡◌, ℕ, ◌<◌, ◌≤◌, length, slice_index_or}
use Rattle.aggregates.specs.Bounds.{zero_part}
use Rattle.aggregates.specs.Rows.{joined}
use Rattle.aggregates.proofs.agg.join_parts.Given as goal
use Rattle.cube_defs.specs.declared.limits.TheConstants.{MAX_MEASURES}

abbrev pub invariant-parts : goal.invariant-parts
invariant-parts l = record {
  joined : (k : ℕ) → k < l.i
      → slice_index_or l.parts k zero_part ≡ joined (slice_index_or l.fn.parts k zero_part)
      (slice_index_or l.others k zero_part);
  others : (k : ℕ) → l.i ≤ k → slice_index_or l.parts k zero_part ≡ slice_index_or l.fn.parts k zero_part;
  four : length l.parts ≡ MAX_MEASURES;
}
