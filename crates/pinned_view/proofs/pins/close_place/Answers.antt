use Rattle.std.proofs.Common.{arith, ap, set, ◌∙◌}
use Rattle.std.proofs.lemmas.List.Edits.{map_over_more}
use Rattle.pinned_view.specs.Pins.{moved_over}
use Rattle.pinned_view.proofs.pins.close_place.Goals as goal

pub pins-preserved : goal.pins-preserved
pins-preserved c = record {
  items = ap (λ n. set c.pins.pins.items c.pins.at (record c.index_mut-pin.result.now { from = n })) c.place_after-pin.ensures
      ∙ map_over_more (moved_over c.args.gone) c.args.pins.now.items c.pins.pins.items c.pins.at
      c.index_mut-pin.result.now (omega (arith, c.len-at-end.ensures, c.pins-test.true)) c.pins.invariant.items
      c.index_mut-pin.ensures.value;
  capacity = c.pins.invariant.capacity;
}
