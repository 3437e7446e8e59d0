use Rattle.std.proofs.Common.{◌≤◌, length}
use Rattle.std.specs.Vec.{vec_capacity}
use Rattle.qc_arena.specs.Changes.{class_in, from_side, to_side}
use Rattle.qc_arena.specs.Inside.{image_or, join}
use Rattle.slab.specs.Slab as slots
use Rattle.qc_arena.proofs.Pairs.{AreNewIn}
use Rattle.qc_arena.proofs.class_changes.changed.Given as goal

abbrev pub invariant-images : goal.invariant-images
invariant-images l = record {
  new : AreNewIn (from_side l.added (λ q. class_in (image_or l.nodes l.images q))
      (λ q. class_in (join (slots.get l.nodes q))))
      (to_side l.added (λ q. class_in (image_or l.nodes l.images q)) (λ q. class_in (join (slots.get l.nodes q))))
      l.images l.k l.pairs.items;
  few : length l.pairs.items ≤ l.k;
  room : l.count ≤ vec_capacity l.pairs;
}
