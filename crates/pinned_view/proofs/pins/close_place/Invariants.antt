use Rattle.std.proofs.Common.{◌≡◌, ◌++◌, drop, map, take}
use Rattle.std.specs.Prelude.{vec_capacity}
use Rattle.pinned_view.specs.Pins.{moved_over}
use Rattle.pinned_view.proofs.pins.close_place.Given as goal

abbrev pub invariant-pins : goal.invariant-pins
invariant-pins l = record {
  items : l.pins.items ≡ map (moved_over l.gone) (take l.at l.initial.pins.items) ++ drop l.at l.initial.pins.items;
  capacity : vec_capacity l.pins ≡ vec_capacity l.initial.pins;
}
