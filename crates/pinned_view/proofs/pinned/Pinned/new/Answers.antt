use Rattle.std.proofs.Common.{List, ap, length}
use Rattle.qc_arena.specs.Map.{ImageMap}
use Rattle.warehouse.specs.State.{Contents}
use Rattle.pinned_view.specs.declared.pins.Pin.{Pin}
use Rattle.pinned_view.proofs.Staying.{no_pins}
use Rattle.pinned_view.proofs.pinned.Pinned.new.Goals as goal

pub invariant_of-result : goal.invariant_of-result
invariant_of-result c = (
  no_pins c.drop_images.new.self c.new.result.items c.in-Ok.pins.items
      (ap (λ (pins : List Pin). length pins) c.in-Ok.ensures.items)
      (ap (λ (kept : List ImageMap). length kept) c.new.ensures.items)
      (ap (λ (held : Contents). held.images) c.drop_images.ensures.rest),
  c.in-Ok.ensures.capacity,
)
