use Rattle.std.proofs.Common.{arith, refl}
use Rattle.pinned_view.proofs.Settling.{keeps_same, settled_last}
use Rattle.pinned_view.proofs.stored_images.settle_all.Goals as goal

pub places-init : goal.places-init
places-init c =
    let kept = c.args.kept.now.items in
    let pins = c.args.pins.now.items in
    record {
      keeps = keeps_same kept pins;
      within = λ some. omega (arith, some, c.saturating_sub-at.ensures, c.len.ensures);
      settled = settled_last kept pins c.saturating_sub-at.result (omega (arith, c.saturating_sub-at.ensures, c.len.ensures));
      capacity = refl;
    }
