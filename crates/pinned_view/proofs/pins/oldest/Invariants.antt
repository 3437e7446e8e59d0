use Rattle.std.proofs.Common.{ℕ, ◌≡◌, ◌<◌, ◌≤◌, drop, get_or}
use Rattle.pinned_view.specs.Pins.{least_place}
use Rattle.pinned_view.specs.declared.pins.Pin.{Pin}
use Rattle.pinned_view.proofs.pins.oldest.Given as goal

abbrev pub invariant-pins : goal.invariant-pins
invariant-pins l = record {
  least : least_place l.end l.pins.items ≡ least_place l.least (drop l.pin-index l.pins.items);
  end : l.least ≤ l.end;
  each : (k : ℕ) (d : Pin) → k < l.pin-index → l.least ≤ (get_or l.pins.items k d).from;
}
