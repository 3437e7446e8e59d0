use Rattle.std.proofs.Common.{arith}
use Rattle.std.proofs.lemmas.List.Edits.{map_over_more}
use Rattle.pinned_view.specs.Pins.{moved_back}
use Rattle.pinned_view.proofs.pins.shift_places.Goals as goal

pub pins-preserved : goal.pins-preserved
pins-preserved c = record {
  items = map_over_more (moved_back c.args.by) c.args.pins.now.items c.pins.pins.items c.pins.at
      c.index_mut-pin.result.now (omega (arith, c.len-at-end.ensures, c.pins-test.true)) c.pins.invariant.items
      c.index_mut-pin.ensures.value;
  capacity = c.pins.invariant.capacity;
}
