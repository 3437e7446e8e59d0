use Rattle.std.proofs.Common.{◌≡◌, ◌<◌, drop, length}
use Rattle.std.specs.Prelude.{vec_capacity}
use Rattle.pinned_view.specs.Pins.{AreSettledFrom, KeepsReads}
use Rattle.pinned_view.proofs.stored_images.settle_all.Given as goal

abbrev pub invariant-places : goal.invariant-places
invariant-places l = record {
  keeps : KeepsReads l.initial.kept.items l.initial.pins.items l.kept.items l.pins.items;
  within : 0 < l.at → l.at < length l.kept.items;
  settled : AreSettledFrom l.at (drop l.at l.kept.items) l.pins.items;
  capacity : vec_capacity l.pins ≡ vec_capacity l.initial.pins;
}

abbrev pub decreases-places : goal.decreases-places
decreases-places l = l.at
