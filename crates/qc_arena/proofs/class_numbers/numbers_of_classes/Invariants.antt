use Rattle.std.proofs.Common.{◌≡◌, ◌+◌, ◌≤◌, length}
use Rattle.std.specs.Vec.{vec_capacity}
use Rattle.slab.specs.Slab as slots
use Rattle.qc_arena.specs.Changes.{class_in}
use Rattle.qc_arena.specs.Inside.{join}
use Rattle.qc_arena.proofs.ClassNumbers.{AreBelow, classes_to, nodes_to}
use Rattle.qc_arena.proofs.class_numbers.numbers_of_classes.Given as goal

abbrev pub invariant-places : goal.invariant-places
invariant-places g l = record {
  below : AreBelow (λ q. class_in (join (slots.get l.nodes q))) l.place l.numbers.items;
  len : length l.numbers.items ≡ classes_to l.nodes l.place;
  room : l.classes ≤ vec_capacity l.numbers;
  steps : l.steps ≡ l.initial.steps + nodes_to l.nodes l.place;
}
