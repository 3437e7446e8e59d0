use Rattle.std.proofs.Common.{length, ◌-◌, ◌<◌, ◌≡◌, ◌≤◌}
use Rattle.std.specs.Prelude.{slice_index_or}
use Rattle.std.specs.declared.cmp.Ordering.TheVariants.{Less}
use Rattle.measure_index.specs.ColumnKeys.{key_cmp}
use Rattle.measure_index.specs.declared.key.Key.{Key}
use Rattle.measure_index.proofs.blocks.passed_in.Given as goal

abbrev pub invariant-strides : goal.invariant-strides
invariant-strides l = record {
  within : l.place ≤ length l.keys;
  less : (d : Key) → 0 < l.place → key_cmp (slice_index_or l.keys (l.place - 1) d) l.key ≡ Less;
}

abbrev pub decreases-strides : goal.decreases-strides
decreases-strides l = length l.keys - l.place
