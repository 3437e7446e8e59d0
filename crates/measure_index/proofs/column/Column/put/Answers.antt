use Rattle.std.proofs.Common.{◌&&◌, ◌||◌, ap, not, refl, subst, sym, ◌∙◌}
use Rattle.std.proofs.lemmas.Result.{IfOk-weaker, on_err_weaker, on_ok_weaker}
use Rattle.measure_index.specs.Changes.{AreFresh, EntriesAdded, lists}
use Rattle.measure_index.specs.Entries.{entry_total}
use Rattle.measure_index.specs.ColumnKeys.{entries_at, key_cmp, key_total}
use Rattle.measure_index.specs.Keys.{among}
use Rattle.measure_index.specs.Rankings.{Ranking}
use Rattle.measure_index.proofs.KeyLemmas.{any_turned}
use Rattle.measure_index.proofs.Keyed.{carried, rising, same_entries_at}
use Rattle.measure_index.proofs.column.Column.put.Goals as goal

pub returns-clause-came : goal.returns-clause-came
returns-clause-came c =
    let kind = c.self.inside.kind in
    let scale = c.self.inside.scale in
    let old = c.self.inside.keys.keys in
    let new = c.insert_all.new.self.keys in
    on_ok_weaker c.insert_all.result
    (λ h. let now : Ranking = record { kind = kind; scale = scale; entries = entries_at kind scale new } in
    subst (λ r. EntriesAdded (entries_at r.kind r.scale c.args.added.now) r now) c.self.view_is (record {
      alike = record {
        kind = refl;
        scale = refl;
        was_rising = rising kind scale old c.self.invariant.rising;
        rising
            = rising kind scale new c.insert_all.ensures.now_ordered;
      };
      entry = λ q.
          any_turned entry_total (entries_at kind scale new) q
          ∙ carried kind scale (λ a b. a || b) refl old c.args.added.now new (λ k. sym (any_turned key_total new k)
          ∙ h k ∙ ap (λ a. a || among key_cmp c.args.added.now k) (any_turned key_total old k)) q
          ∙ ap (λ a. a || lists (entries_at kind scale c.args.added.now) q)
          (sym (any_turned entry_total (entries_at kind scale old) q));
    }))
    c.insert_all.ensures.has

pub returns-clause-fresh : goal.returns-clause-fresh
returns-clause-fresh c =
    let kind = c.self.inside.kind in
    let scale = c.self.inside.scale in
    let old = c.self.inside.keys.keys in
    IfOk-weaker c.insert_all.result _ _
    (λ came h. subst (λ r. AreFresh r (entries_at r.kind r.scale c.args.added.now)
    (entries_at r.kind r.scale came.items)) c.self.view_is
    (λ q.
    carried kind scale (λ a b. a && not b) refl c.args.added.now old came.items (λ k. h k
    ∙ ap (λ b. among key_cmp c.args.added.now k && not b) (any_turned key_total old k)) q
    ∙ ap (λ b. lists (entries_at kind scale c.args.added.now) q && not b)
    (sym (any_turned entry_total (entries_at kind scale old) q))))
    c.insert_all.ensures.fresh

pub returns-clause-err : goal.returns-clause-err
returns-clause-err c =
    let kind = c.self.inside.kind in
    let scale = c.self.inside.scale in
    on_err_weaker c.insert_all.result
    (λ h. ap (λ es. let r : Ranking = record { kind = kind; scale = scale; entries = es } in r)
    (sym (same_entries_at kind scale c.self.inside.keys c.insert_all.new.self c.self.invariant.rising
    c.insert_all.ensures.now_ordered h)) ∙ c.self.view_is)
    c.insert_all.ensures.err
