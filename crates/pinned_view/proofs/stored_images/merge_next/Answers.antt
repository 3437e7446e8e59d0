use Rattle.std.proofs.Common.{◌+◌, ◌≡◌, List, arith, ap, get_or, set, subst, suc, sym, ◌∙◌}
use Rattle.std.specs.List.{remove}
use Rattle.qc_arena.specs.Map.{ImageMap}
use Rattle.pinned_view.specs.Pins.{IsMergedAt}
use Rattle.pinned_view.proofs.Joining.{merged_at}
use Rattle.pinned_view.proofs.stored_images.merge_next.Goals as goal

pub returns-in-Ok-clause-ok : goal.returns-in-Ok-clause-ok
returns-in-Ok-clause-ok c =
    let kept = c.args.kept.now.items in
    let at = c.args.at in
    let next : at + 1 ≡ suc at = omega arith in
    let left : c.remove-later.new.self.items ≡ remove kept (suc at)
    = c.remove-later.ensures.items ∙ ap (remove kept) next in
    let later = c.remove-later.ensures.value ∙ ap (λ n. get_or kept n c.remove-later.result) next in
    let older = c.index_mut-older.ensures.value
    ∙ ap (λ (k : List ImageMap). get_or k at c.index_mut-older.result.now) left in
    subst (λ (k : List ImageMap). IsMergedAt at kept (set k at c.merge_later.new.self)) (sym left)
    (merged_at kept at c.remove-later.result c.index_mut-older.result.now c.merge_later.new.self c.requires later older
    c.in-Ok.ensures.ok)
