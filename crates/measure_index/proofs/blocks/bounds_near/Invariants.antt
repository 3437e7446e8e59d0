use Rattle.std.proofs.Common.{false, length, ◌+◌, ◌-◌, ◌<◌, ◌≡◌, ◌≤◌}
use Rattle.std.specs.Prelude.{Vec, slice_index_or}
use Rattle.std.specs.declared.alloc.Global.{Global}
use Rattle.std.specs.Ordering.{is_gt}
use Rattle.measure_index.specs.ColumnKeys.{key_cmp}
use Rattle.measure_index.specs.declared.key.Key.{Key}
use Rattle.measure_index.proofs.blocks.bounds_near.Given as goal

abbrev pub invariant-steps : goal.invariant-steps
invariant-steps l = record {
  within : l.low < length l.blocks;
  least : (d : Vec Key Global) (e : Key) → 0 < l.low
      → is_gt (key_cmp (slice_index_or (slice_index_or l.blocks l.low d).items 0 e) l.key) ≡ false;
  some : 0 < l.step;
  small : l.step ≤ l.low + 1;
  passed : l.passed ≤ l.low;
}

abbrev pub decreases-steps : goal.decreases-steps
decreases-steps l = length l.blocks - l.low
