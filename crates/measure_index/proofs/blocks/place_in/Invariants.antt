use Rattle.std.proofs.Common.{length, ◌-◌, ◌<◌, ◌≡◌, ◌≤◌}
use Rattle.std.specs.Prelude.{slice_index_or}
use Rattle.std.specs.declared.cmp.Ordering.TheVariants.{Less}
use Rattle.measure_index.specs.ColumnKeys.{key_cmp}
use Rattle.measure_index.specs.declared.key.Key.{Key}
use Rattle.measure_index.proofs.blocks.place_in.Given as goal

abbrev pub invariant-places : goal.invariant-places
invariant-places l = record {
  within : l.place ≤ length l.keys;
  less : (d : Key) → 0 < l.place → key_cmp (slice_index_or l.keys (l.place - 1) d) l.key ≡ Less;
}

abbrev pub decreases-places : goal.decreases-places
decreases-places l = length l.keys - l.place
