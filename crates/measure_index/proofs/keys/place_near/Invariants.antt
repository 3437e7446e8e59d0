use Rattle.std.proofs.Common.{◌≡◌, ◌-◌, ◌<◌, ◌≤◌, length}
use Rattle.std.specs.Prelude.{slice_index_or}
use Rattle.std.specs.declared.cmp.Ordering.TheVariants.{Less}
use Rattle.measure_index.proofs.keys.place_near.Given as goal

abbrev pub invariant-places : goal.invariant-places
invariant-places g l = record {
  within : l.at ≤ length l.items;
  less : (d : g.row.K.Denot) → 0 < l.at → g.K.Ord.cmp (slice_index_or l.items (l.at - 1) d) l.key ≡ Less;
}

abbrev pub decreases-places : goal.decreases-places
decreases-places g l = length l.items - l.at
