use Rattle.std.proofs.Common.{◌≡◌, ◌&&◌, ap, ap₂, not, refl, subst, sym, ◌∙◌}
use Rattle.measure_index.specs.Entries.{HaveMeasure}
use Rattle.measure_index.specs.Changes.{ArePlanned, lists}
use Rattle.measure_index.specs.ColumnKeys.{entries_at, key_cmp}
use Rattle.measure_index.specs.Keys.{among}
use Rattle.measure_index.specs.declared.entry.IndexEntry.{IndexEntry}
use Rattle.measure_index.specs.declared.key.Key.{Key}
use Rattle.measure_index.proofs.Keyed.{are_entries, carried, same_lists}
use Rattle.measure_index.proofs.column.Column.plan.Goals as goal

pub keys_of-requires : goal.keys_of-requires
keys_of-requires c = subst (λ r. HaveMeasure r.kind c.args.add.now) (sym c.self.view_is) c.requires.add

pub keys_of-requires-2 : goal.keys_of-requires-2
keys_of-requires-2 c = subst (λ r. HaveMeasure r.kind c.args.remove.now) (sym c.self.view_is) c.requires.remove

pub returns : goal.returns
returns c =
    let kind = c.self.inside.kind in
    let scale = c.self.inside.scale in
    let within = c.self.invariant.scale_small in
    let added = c.in-Ok.added.items in
    let removed = c.in-Ok-keys_of.removed.items in
    let coming = c.sort_keys.new.keys.items in
    let leaving = c.sort_keys-2.new.keys.items in
    let going = c.in_ok-going.going.items in
    let come : (q : IndexEntry) → lists (entries_at kind scale coming) q ≡ lists (entries_at kind scale added) q
    = same_lists kind scale added coming c.sort_keys.ensures.permutation in
    let leave : (q : IndexEntry) → lists (entries_at kind scale leaving) q ≡ lists (entries_at kind scale removed) q
    = same_lists kind scale removed leaving c.sort_keys-2.ensures.permutation in
    let lacked : (k : Key) → among key_cmp going k ≡ (among key_cmp leaving k && not (among key_cmp coming k))
    = λ k. c.in_ok-going.ensures.has k
    ∙ ap (λ ks. among key_cmp leaving k && not (among key_cmp ks k)) c.deref.ensures.value in
    subst (λ r. ArePlanned r c.args.add.now c.args.remove.now (entries_at r.kind r.scale coming)
    (entries_at r.kind r.scale going)) c.self.view_is (record {
      added = entries_at kind scale added;
      removed = entries_at kind scale removed;
      adds = are_entries kind scale within c.args.add.now added c.in-Ok.ensures;
      removes = are_entries kind scale within c.args.remove.now removed c.in-Ok-keys_of.ensures;
      comes = come;
      goes = λ q. carried kind scale (λ a b. a && not b) refl leaving coming going lacked q
          ∙ ap₂ (λ a b. a && not b) (leave q) (come q);
    })
