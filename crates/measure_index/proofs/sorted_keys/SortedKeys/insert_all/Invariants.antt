use Rattle.std.proofs.Common.{◌≡◌, ◌≤◌, ◌+◌, ◌&&◌, ◌||◌, length, not, take, vec_capacity, vec_len}
use Rattle.std.specs.BTreeSet.{IsOrdered, btree_set_len, contains}
use Rattle.measure_index.specs.ColumnKeys.{key_cmp}
use Rattle.measure_index.specs.Keys.{among}
use Rattle.measure_index.specs.declared.key.Key.{Key}
use Rattle.measure_index.proofs.sorted_keys.SortedKeys.insert_all.Given as goal

abbrev pub invariant-loop-item : goal.invariant-loop-item
invariant-loop-item l = record {
  has : (q : Key)
      → contains key_cmp l.self q ≡ (contains key_cmp l.fn.self q || among key_cmp (take l.item-index l.items) q);
  fresh : (q : Key)
      → among key_cmp l.came.items q
      ≡ (among key_cmp (take l.item-index l.items) q && not (contains key_cmp l.fn.self q));
  noted : vec_len l.came ≤ l.item-index;
  room : vec_capacity l.came ≡ length l.items;
  few : btree_set_len l.self ≤ btree_set_len l.fn.self + l.item-index;
  ordered : IsOrdered key_cmp l.self;
}
