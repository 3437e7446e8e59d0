use Rattle.std.proofs.Common.{◌≡◌, ◌≤◌, ◌&&◌, length, not, take, vec_capacity, vec_len}
use Rattle.measure_index.specs.Keys.{among}
use Rattle.measure_index.proofs.keys.lacked_by.Given as goal

abbrev pub invariant-loop-item : goal.invariant-loop-item
invariant-loop-item g l = record {
  has : (q : g.row.K.Denot)
      → among g.K.Ord.cmp l.out.items q ≡ (among g.K.Ord.cmp (take l.item-index l.items.items) q
      && not (among g.K.Ord.cmp l.others q));
  noted : vec_len l.out ≤ l.item-index;
  room : vec_len l.items ≤ vec_capacity l.out;
  within : l.place ≤ length l.others;
}
