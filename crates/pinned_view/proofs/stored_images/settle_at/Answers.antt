use Rattle.std.proofs.Common.{◌+◌, ◌≡◌, ◌∙◌, List, ap, arith, drop, map, refl, subst, suc, sym}
use Rattle.pinned_view.specs.Pins.{AreSettledFrom, KeepsReads, moved_over}
use Rattle.pinned_view.specs.declared.pins.Pin.{Pin}
use Rattle.pinned_view.proofs.Settling.{keeps_merged, settled_merged, settled_more}
use Rattle.pinned_view.proofs.stored_images.settle_at.Goals as goal

pub returns-then-not-may_merge-clause-settled : goal.returns-then-not-may_merge-clause-settled
returns-then-not-may_merge-clause-settled c =
    settled_more c.args.kept.now.items c.args.pins.now.items c.args.at (omega (arith, c.requires))
    (c.if-not-may_merge.ensures.settled refl)

closed : (c : goal.After-close_place) → c.close_place.new.pins.items ≡ map (moved_over (suc c.args.at)) c.args.pins.now.items
closed c =
    let next : c.args.at + 1 ≡ suc c.args.at = omega arith in
    c.close_place.ensures.items ∙ ap (λ n. map (moved_over n) c.args.pins.now.items) next

pub returns-clause-keeps : goal.returns-clause-keeps
returns-clause-keeps c =
    let kept = c.args.kept.now.items in
    let pins = c.args.pins.now.items in
    let kept' = c.merge_next.new.kept.items in
    subst (λ (p : List Pin). KeepsReads kept pins kept' p) (sym (closed c))
    (keeps_merged c.args.at kept kept' pins c.in_ok-merge_next.ensures.ok
    (c.may_merge.ensures.apart c.if-not-may_merge.false))

pub returns-clause-settled : goal.returns-clause-settled
returns-clause-settled c = λ is.
    let kept = c.args.kept.now.items in
    let pins = c.args.pins.now.items in
    let kept' = c.merge_next.new.kept.items in
    subst (λ (p : List Pin). AreSettledFrom c.args.at (drop c.args.at kept') p) (sym (closed c))
    (settled_merged c.args.at kept kept' pins c.in_ok-merge_next.ensures.ok is)
