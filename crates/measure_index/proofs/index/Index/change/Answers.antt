use Rattle.std.proofs.Common.{◌≡◌, ◌++◌, ap, drop, length, subst, sym, take, ◌∙◌}
use Rattle.std.specs.List.{All, AllZip}
use Rattle.std.proofs.lemmas.Result.{on_ok_weaker}
use Rattle.std.proofs.lemmas.Slice.Zip.{AllZip-long}
use Rattle.measure_index.specs.Changes.{HasChanged}
use Rattle.measure_index.specs.Entries.{HaveMeasure}
use Rattle.measure_index.specs.Rankings.{IsIndex}
use Rattle.measure_index.proofs.Zips.{written_over}
use Rattle.measure_index.proofs.Classes.{index_changed}
use Rattle.measure_index.proofs.index.Index.change.Goals as goal

pub change_columns-requires-clause-add : goal.change_columns-requires-clause-add
change_columns-requires-clause-add c
    = subst (λ rs. All (λ r. HaveMeasure r.kind c.args.add.now) rs) (sym (c.deref_mut.ensures.value ∙ c.self.view_is))
    c.requires.add

pub change_columns-requires-clause-remove : goal.change_columns-requires-clause-remove
change_columns-requires-clause-remove c
    = subst (λ rs. All (λ r. HaveMeasure r.kind c.args.remove.now) rs)
    (sym (c.deref_mut.ensures.value ∙ c.self.view_is)) c.requires.remove

pub returns-clause-classes : goal.returns-clause-classes
returns-clause-classes c =
    on_ok_weaker c.change_columns.result
    (λ zip from to come go is.
    let olds = c.self.inside.columns.items in
    let news = c.change_columns.new.columns in
    let zipped : AllZip (HasChanged c.args.add.now c.args.remove.now) olds news
    = subst (λ rs. AllZip (HasChanged c.args.add.now c.args.remove.now) rs news) c.deref_mut.ensures.value zip in
    let long : length news ≡ length olds = AllZip-long (HasChanged c.args.add.now c.args.remove.now) olds news zipped in
    let whole : take c.self.inside.columns.len (news ++ drop (length news) olds) ≡ news
    = ap (λ n. take n (news ++ drop (length news) olds)) (sym c.deref_mut.ensures.len
    ∙ ap length c.deref_mut.ensures.value ∙ sym long) ∙ written_over news olds long in
    subst (IsIndex to) (sym whole) (index_changed c.args.add.now c.args.remove.now from to come go olds news zipped
    (subst (IsIndex from) (sym c.self.view_is) is)))
    c.change_columns.ensures.ok
