use Rattle.std.proofs.Common.{List, ap, arith, eqb-true, get_or, length, set, subst, sym, true, ◌<◌, ◌∙◌}
use Rattle.std.specs.List.{insert}
use Rattle.std.specs.List.Sorted.{IsStrictlySortedBy}
use Rattle.std.proofs.lemmas.List.{nil_from_length}
use Rattle.std.proofs.lemmas.List.Edits.{length-insert}
use Rattle.std.proofs.lemmas.List.Elements.{All-get_or}
use Rattle.measure_index.specs.Blocks.{HasCome, joined, place_of}
use Rattle.measure_index.specs.ColumnKeys.{key_cmp}
use Rattle.measure_index.specs.Keys.{among}
use Rattle.measure_index.specs.declared.key.Key.{Key}
use Rattle.measure_index.proofs.BlockLemmas.{Block, insert_in, same_items, set_are}
use Rattle.measure_index.proofs.Comings.{come_at, come_first, come_not}
use Rattle.measure_index.proofs.blocks.insert_key.Goals as goal

pub returns-then-is_empty-clause-are : goal.returns-then-is_empty-clause-are
returns-then-is_empty-clause-are c =
    let bs = c.args.blocks.now in
    let none = eqb-true bs.len 0 (sym c.is_empty.ensures ∙ c.if-is_empty.true) in
    (come_first c.args.key bs.items c.push.new.self.items c.in_ok-block_of.field-0
    (nil_from_length bs.items (sym bs.ok.0 ∙ none)) c.in_ok-block_of.ensures c.in_ok-push.ensures.items).0

pub returns-then-is_empty-clause-come : goal.returns-then-is_empty-clause-come
returns-then-is_empty-clause-come c =
    let bs = c.args.blocks.now in
    let none = eqb-true bs.len 0 (sym c.is_empty.ensures ∙ c.if-is_empty.true) in
    (come_first c.args.key bs.items c.push.new.self.items c.in_ok-block_of.field-0
    (nil_from_length bs.items (sym bs.ok.0 ∙ none)) c.in_ok-block_of.ensures c.in_ok-push.ensures.items).1

pub returns-then-spot-clause-come : goal.returns-then-spot-clause-come
returns-then-spot-clause-come c =
    let spot = c.in_ok-spot.ensures.spot in
    let same = c.in_ok-spot.ensures.same in
    come_not c.args.key (joined c.args.blocks.now.items) c.requires.rising (joined c.roomy_spot.new.blocks.items) same
    (sym c.if-spot.true ∙ spot.found ∙ ap (λ (ks : List Key). among key_cmp ks c.args.key) same)

pub returns-in-Ok-clause-come : goal.returns-in-Ok-clause-come
returns-in-Ok-clause-come c =
    let bs = c.roomy_spot.new.blocks.items in
    let at = c.in_ok-spot.spot in
    let spot = c.in_ok-spot.ensures.spot in
    let same = c.in_ok-spot.ensures.same in
    let block = c.index_mut.result.now in
    let new = joined (set bs at.block c.insert_at.new.block) in
    subst (λ ks. HasCome c.args.key ks new true) same
    (come_at c.args.key (joined bs) c.in_ok-spot.ensures.are.rising new (place_of bs at.block at.place)
    (insert_in bs at.block block spot.block c.insert_at.new.block at.place c.args.key (spot.within block)
    (c.in-Ok.ensures ∙ ap (λ b. insert b.items at.place c.args.key) c.index_mut.ensures.value))
    spot.place (sym c.if-spot.false ∙ spot.found))

pub returns-in-Ok-clause-are : goal.returns-in-Ok-clause-are
returns-in-Ok-clause-are c =
    let bs = c.roomy_spot.new.blocks.items in
    let at = c.in_ok-spot.spot in
    let spot = c.in_ok-spot.ensures.spot in
    let block = c.index_mut.result.now in
    let items = c.in-Ok.ensures ∙ ap (λ b. insert b.items at.place c.args.key) c.index_mut.ensures.value in
    let some : 0 < length c.insert_at.new.block.items
    = let now = ap length items in
    let more = length-insert (get_or bs at.block block).items at.place c.args.key (spot.within block) in
    omega (arith, now, more) in
    let come = returns-in-Ok-clause-come c in
    set_are bs at.block block spot.block c.insert_at.new.block some come.rising c.in_ok-spot.ensures.are

pub returns-in-Err-clause-err : goal.returns-in-Err-clause-err
returns-in-Err-clause-err c =
    let bs = c.roomy_spot.new.blocks.items in
    let at = c.in_ok-spot.spot in
    let block = c.index_mut.result.now in
    same_items bs at.block block c.in_ok-spot.ensures.spot.block c.insert_at.new.block
    (c.in-Err.ensures ∙ ap (λ b. b.items) c.index_mut.ensures.value) ∙ c.in_ok-spot.ensures.same

pub returns-in-Err-clause-are : goal.returns-in-Err-clause-are
returns-in-Err-clause-are c =
    let bs = c.roomy_spot.new.blocks.items in
    let at = c.in_ok-spot.spot in
    let block = c.index_mut.result.now in
    let spot = c.in_ok-spot.ensures.spot in
    let are = c.in_ok-spot.ensures.are in
    let items = c.in-Err.ensures ∙ ap (λ b. b.items) c.index_mut.ensures.value in
    set_are bs at.block block spot.block c.insert_at.new.block
    (subst (λ ks. 0 < length ks) (sym items)
    (All-get_or (λ (b : Block). 0 < length b.items) bs at.block block spot.block are.full))
    (subst (IsStrictlySortedBy key_cmp) (sym (same_items bs at.block block spot.block c.insert_at.new.block items)) are.rising)
    are
