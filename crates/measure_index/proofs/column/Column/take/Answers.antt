use Rattle.std.proofs.Common.{◌&&◌, ap, not, refl, subst, sym, ◌∙◌}
use Rattle.measure_index.specs.Changes.{EntriesRemoved, lists}
use Rattle.measure_index.specs.Entries.{entry_total}
use Rattle.measure_index.specs.ColumnKeys.{entries_at, key_cmp, key_total}
use Rattle.measure_index.specs.Keys.{among}
use Rattle.measure_index.specs.Rankings.{Ranking}
use Rattle.measure_index.proofs.KeyLemmas.{any_turned}
use Rattle.measure_index.proofs.Keyed.{carried, rising}
use Rattle.measure_index.proofs.column.Column.take.Goals as goal

pub returns : goal.returns
returns c =
    let kind = c.self.inside.kind in
    let scale = c.self.inside.scale in
    let old = c.self.inside.keys.keys in
    let new = c.remove_all.new.self.keys in
    let now : Ranking = record { kind = kind; scale = scale; entries = entries_at kind scale new } in
    subst (λ r. EntriesRemoved (entries_at r.kind r.scale c.args.going.now) r now) c.self.view_is (record {
      alike = record {
        kind = refl;
        scale = refl;
        was_rising = rising kind scale old c.self.invariant.rising;
        rising
            = rising kind scale new c.remove_all.ensures.ordered;
      };
      entry = λ q.
          any_turned entry_total (entries_at kind scale new) q
          ∙ carried kind scale (λ a b. a && not b) refl old c.args.going.now new (λ k. sym (any_turned key_total new k)
          ∙ c.remove_all.ensures.has k
          ∙ ap (λ a. a && not (among key_cmp c.args.going.now k)) (any_turned key_total old k)) q
          ∙ ap (λ a. a && not (lists (entries_at kind scale c.args.going.now) q))
          (sym (any_turned entry_total (entries_at kind scale old) q));
    })
