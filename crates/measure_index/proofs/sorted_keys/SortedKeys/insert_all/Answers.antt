use Rattle.std.proofs.Common.{◌≡◌, ◌&&◌, ◌||◌, ◌∙◌, ap, arith, not}
use Rattle.std.specs.BTreeSet.{btree_set_len, contains}
use Rattle.measure_index.specs.ColumnKeys.{key_cmp, key_total}
use Rattle.measure_index.specs.Keys.{among}
use Rattle.cube_laws.proofs.CallerLemmas.{take_all}
use Rattle.measure_index.proofs.KeyLemmas.{back_again, came_in, none_in, noted, one_at_most}
use Rattle.measure_index.proofs.sorted_keys.SortedKeys.insert_all.Goals as goal

pub returns-in-Err-insert-clause-err : goal.returns-in-Err-insert-clause-err
returns-in-Err-insert-clause-err c = λ q.
    let same : contains key_cmp c.insert.new.self q ≡ contains key_cmp c.loop-item.self q
    = ap (λ s. contains key_cmp s q) c.in-Err-insert.ensures.err in
    back_again _ _ _ _ _ (same ∙ c.loop-item.invariant.has q) (c.loop-item.invariant.fresh q)
    (c.remove_all.ensures.has q
    ∙ ap (λ xs. contains key_cmp c.insert.new.self q && not (among key_cmp xs q)) c.deref.ensures.value)

pub loop-item-preserved : goal.loop-item-preserved
loop-item-preserved c =
    let xs = c.args.items.now in
    let i = c.loop-item.item-index in
    let x = c.item-item.result in
    let was = c.loop-item.invariant in
    let within = c.loop-item-test.true in
    let come = c.in-Ok-insert.ensures.come in
    let more = one_at_most c.in-Ok-insert.added (btree_set_len c.loop-item.self) (btree_set_len c.insert.new.self)
    come.len in
    let few = was.few in
    let noted_len = c.note.ensures.len in
    let noted_before = was.noted in
    record {
      has = λ q. came_in key_total xs i x within c.item-item.is q _ _ _ (was.has q) (come.has q);
      fresh = λ q. noted key_total xs i x within c.item-item.is c.args.self.now.keys _
          (was.has x) c.in-Ok-insert.added come.added q c.loop-item.came.items c.note.new.came.items
          (was.fresh q) c.note.ensures.items;
      noted = omega (arith, noted_len, noted_before);
      room = c.note.ensures.room ∙ was.room;
      few = omega (arith, more, few);
      ordered = come.rising;
    }

pub loop-item-init : goal.loop-item-init
loop-item-init c =
    let made = c.in-Ok.ensures in
    record {
      has = λ q. none_in (contains key_cmp c.args.self.now q);
      fresh = λ q. ap (λ xs. among key_cmp xs q) made.items;
      noted = omega (arith, made.len);
      room = omega (arith, made.exact);
      few = omega arith;
      ordered = c.requires.ordered;
    }

pub note-requires : goal.note-requires
note-requires c = omega (arith, c.loop-item.invariant.noted, c.loop-item.invariant.room, c.loop-item-test.true)

pub returns-in-Err-insert-clause-few : goal.returns-in-Err-insert-clause-few
returns-in-Err-insert-clause-few c =
    let same : btree_set_len c.insert.new.self ≡ btree_set_len c.loop-item.self
    = ap btree_set_len c.in-Err-insert.ensures.err in
    omega (arith, c.remove_all.ensures.few, same, c.loop-item.invariant.few, c.loop-item-test.true)

pub returns-clause-has : goal.returns-clause-has
returns-clause-has c = λ q.
    c.loop-item.invariant.has q
    ∙ ap (λ xs. contains key_cmp c.args.self.now q || among key_cmp xs q)
    (take_all c.args.items.now c.loop-item.item-index (omega (arith, c.loop-item-test.false)))

pub returns-clause-fresh : goal.returns-clause-fresh
returns-clause-fresh c = λ q.
    c.loop-item.invariant.fresh q
    ∙ ap (λ xs. among key_cmp xs q && not (contains key_cmp c.args.self.now q))
    (take_all c.args.items.now c.loop-item.item-index (omega (arith, c.loop-item-test.false)))

pub returns-clause-few : goal.returns-clause-few
returns-clause-few c = omega (arith, c.loop-item.invariant.few, c.loop-item.auto.item-index-end)
