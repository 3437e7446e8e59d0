use Rattle.std.proofs.Common.{◌≡◌, ◌≤◌, ◌&&◌, not, take}
use Rattle.std.specs.BTreeSet.{IsOrdered, btree_set_len, contains}
use Rattle.measure_index.specs.ColumnKeys.{key_cmp}
use Rattle.measure_index.specs.Keys.{among}
use Rattle.measure_index.specs.declared.key.Key.{Key}
use Rattle.measure_index.proofs.sorted_keys.SortedKeys.remove_all.Given as goal

abbrev pub invariant-loop-item : goal.invariant-loop-item
invariant-loop-item l = record {
  has : (q : Key)
      → contains key_cmp l.self q
      ≡ (contains key_cmp l.fn.self q && not (among key_cmp (take l.item-index l.items) q));
  few : btree_set_len l.self ≤ btree_set_len l.fn.self;
  ordered : IsOrdered key_cmp l.self;
}
