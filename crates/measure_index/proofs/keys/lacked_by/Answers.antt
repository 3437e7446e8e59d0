use Rattle.std.proofs.Common.{◌≡◌, ◌<◌, ◌∙◌, ◌&&◌, arith, not, List, ap, get_or, length, subst}
use Rattle.cube_laws.proofs.CallerLemmas.{take_all}
use Rattle.measure_index.specs.Keys.{among}
use Rattle.measure_index.proofs.KeyLemmas.{added_lack}
use Rattle.measure_index.proofs.keys.lacked_by.Goals as goal

pub loop-item-preserved : goal.loop-item-preserved
loop-item-preserved g c =
    let xs = c.args.items.now.items in
    let i = c.loop-item.item-index in
    let x = c.item-item.result in
    let was = c.loop-item.invariant in
    let within : i < length xs
    = subst (λ (ys : List _). i < length ys) c.deref-item-items.ensures.value c.loop-item-test.true in
    let at : x ≡ get_or xs i x
    = c.item-item.is ∙ ap (λ (ys : List _). get_or ys i x) c.deref-item-items.ensures.value in
    record {
      has = λ q. added_lack g.met.K.Ord.total xs c.args.others.now c.loop-item.out.items i x q within at (was.has q)
          c.note.new.came.items _ (ap not c.is_at.ensures) c.note.ensures.items;
      noted = omega (arith, c.note.ensures.len, was.noted);
      room = omega (arith, c.note.ensures.room, was.room);
      within = c.place_near-place.ensures.within;
    }

pub loop-item-init : goal.loop-item-init
loop-item-init g c =
    let made = c.in_ok-out.ensures in
    record {
      has = λ q. ap (λ (xs : List _). among g.K.Ord.cmp xs q) made.items;
      noted = omega (arith, made.len);
      room = omega (arith, made.exact, c.len.ensures);
      within = omega arith;
    }

pub note-requires : goal.note-requires
note-requires g c =
    omega (
      arith,
      c.loop-item.invariant.noted,
      c.loop-item.invariant.room,
      c.loop-item-test.true,
      c.deref-item-items.ensures.len,
    )

pub returns : goal.returns
returns g c =
    let all = take_all c.args.items.now.items c.loop-item.item-index
    (omega (arith, c.deref-item-items.ensures.len, c.loop-item-test.false)) in
    record {
      has = λ q. c.loop-item.invariant.has q
          ∙ ap (λ (xs : List _). among g.K.Ord.cmp xs q && not (among g.K.Ord.cmp c.args.others.now q)) all;
    }
