use Rattle.std.specs.FinMap as map
use Rattle.std.proofs.Common.{ap, ap₂, ◌++◌, ◌∙◌, ◌≡◌}
use Rattle.qc_arena.specs.Entries.{all_new}
use Rattle.qc_arena.proofs.Merges.{sorted_rise, taken_in}
use Rattle.qc_arena.proofs.images.Images.merge_later.Goals as goal

pub of-requires-clause-older : goal.of-requires-clause-older
of-requires-clause-older c =
    let m = c.self.inside in
    let rise = sorted_rise m.changed.items m.added.items c.self.invariant.1 c.self.invariant.2 in
    record {
      once = rw (c.replace.ensures.value, c.replace-2.ensures.value) c.self.invariant.0;
      changed_rise = rw c.replace.ensures.value rise.0;
      added_rise = rw c.replace-2.ensures.value rise.1;
    }

pub of-requires-clause-later : goal.of-requires-clause-later
of-requires-clause-later c =
    let m = c.later.inside in
    let rise = sorted_rise m.changed.items m.added.items c.later.invariant.1 c.later.invariant.2 in
    record { once = c.later.invariant.0; changed_rise = rise.0; added_rise = rise.1 }

pub returns-clause-ok : goal.returns-clause-ok
returns-clause-ok c = λ q.
    let m = c.self.inside in
    let n = c.later.inside in
    let same : c.replace.result.items ++ all_new c.replace-2.result.items ≡ m.changed.items ++ all_new m.added.items =
    ap₂ (λ a b. a.items ++ all_new b.items) c.replace.ensures.value c.replace-2.ensures.value in
    taken_in c.args.self.now c.args.later _ (c.replace.result.items ++ all_new c.replace-2.result.items)
    (n.changed.items ++ all_new n.added.items) q (ap map.from_entries same ∙ c.self.view_is) c.later.view_is
    (c.drop.view_is ∙ c.all.ensures ∙ c.of.ensures)
