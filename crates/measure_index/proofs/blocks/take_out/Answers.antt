use Rattle.std.proofs.Common.{ap, arith, get_or, length, subst, sym, ◌<◌, ◌≡◌, ◌∙◌}
use Rattle.std.specs.List.{remove}
use Rattle.std.specs.List.Sorted.{IsStrictlySortedBy}
use Rattle.std.proofs.lemmas.List.{get_or_default}
use Rattle.std.proofs.lemmas.List.Edits.{length-remove}
use Rattle.measure_index.specs.Blocks.{AreBlocks, joined, place_of}
use Rattle.measure_index.specs.ColumnKeys.{key_cmp, key_total}
use Rattle.measure_index.proofs.BlockLemmas.{place_within, remove_are, remove_in, remove_only, set_are}
use Rattle.measure_index.proofs.Places.{remove_rises}
use Rattle.measure_index.proofs.blocks.take_out.Goals as goal

pub returns-then-len-eq1-clause-taken : goal.returns-then-len-eq1-clause-taken
returns-then-len-eq1-clause-taken c =
    let block = c.index.result.now in
    ap joined c.remove.ensures.items
    ∙ remove_only c.args.blocks.now.items c.args.block block c.requires.block c.args.place (c.requires.place block)
    (ap (λ b. length b.items) (sym c.index.ensures) ∙ sym block.ok.0 ∙ sym c.len.ensures ∙ c.if-len-eq1.true)

pub returns-then-len-eq1-clause-are : goal.returns-then-len-eq1-clause-are
returns-then-len-eq1-clause-are c =
    let bs = c.args.blocks.now.items in
    let block = c.index.result.now in
    let place = c.requires.place block in
    subst AreBlocks (sym c.remove.ensures.items) (remove_are bs c.args.block block c.requires.block
    (subst (IsStrictlySortedBy key_cmp) (sym (ap joined (sym c.remove.ensures.items)
    ∙ returns-then-len-eq1-clause-taken c)) (remove_rises key_total (joined bs) (place_of bs c.args.block c.args.place)
    c.requires.are.rising (place_within bs c.args.block block c.requires.block c.args.place place))) c.requires.are)

pub returns-clause-taken : goal.returns-clause-taken
returns-clause-taken c =
    let block = c.index_mut.result.now in
    let read = c.index_mut.ensures.value in
    remove_in c.args.blocks.now.items c.args.block block c.requires.block c.remove-2.new.self c.args.place
    (c.requires.place block) (c.remove-2.ensures.items ∙ ap (λ b. remove b.items c.args.place) read)

pub returns-clause-are : goal.returns-clause-are
returns-clause-are c =
    let bs = c.args.blocks.now.items in
    let block = c.index_mut.result.now in
    let one = c.index.result.now in
    let place = c.requires.place block in
    let same : length (get_or bs c.args.block block).items ≡ c.len.result
    = ap (λ b. length b.items) (get_or_default bs c.args.block block one c.requires.block ∙ sym c.index.ensures)
    ∙ sym one.ok.0 ∙ sym c.len.ensures in
    let some : 0 < length c.remove-2.new.self.items
    = let now = ap length (c.remove-2.ensures.items ∙ ap (λ b. remove b.items c.args.place) c.index_mut.ensures.value) in
    let less = length-remove (get_or bs c.args.block block).items c.args.place place in
    omega (arith, now, less, same, place, c.if-len-eq1.false) in
    set_are bs c.args.block block c.requires.block c.remove-2.new.self some
    (subst (IsStrictlySortedBy key_cmp) (sym (returns-clause-taken c)) (remove_rises key_total (joined bs)
    (place_of bs c.args.block c.args.place) c.requires.are.rising
    (place_within bs c.args.block block c.requires.block c.args.place place))) c.requires.are
