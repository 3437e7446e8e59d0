use Rattle.std.proofs.Common.{ap, arith, sym, ◌∙◌, le-ltb, subst}
use Rattle.std.specs.Ordering.{is_eq}
use Rattle.measure_index.specs.ColumnKeys.{key_cmp}
use Rattle.measure_index.specs.Spots.{IsSpot}
use Rattle.measure_index.proofs.BlockLemmas.{spot_after, spot_there}
use Rattle.measure_index.proofs.blocks.spot_of.Goals as goal

pub returns-then-place-keys : goal.returns-then-place-keys
returns-then-place-keys c =
    let bounds = c.block_for-block.ensures in
    let block = c.index-blocks-block in
    let key = c.index-keys-place in
    spot_there c.args.blocks.now c.block_for-block.result block.result (omega (arith, bounds.within))
    c.args.key.now c.requires.are bounds c.place_in-place.result c.deref-keys.result.now
    (c.deref-keys.ensures.value ∙ ap (λ b. b.items) block.is) c.place_in-place.ensures c.is_eq.result key.result
    c.if-place-keys.true
    (c.is_eq.ensures ∙ ap is_eq (c.cmp.ensures ∙ ap (λ x. key_cmp x c.args.key.now) key.is))

pub returns-else-place-keys : goal.returns-else-place-keys
returns-else-place-keys c =
    let bounds = c.block_for-block.ensures in
    let block = c.index-blocks-block in
    subst (λ b. IsSpot c.args.blocks.now c.args.key.now (record {
      block = c.block_for-block.result;
      place = c.place_in-place.result;
      found = b;
    })) (sym (le-ltb c.place_in-place.result _ c.if-place-keys.false))
    (spot_after c.args.blocks.now c.block_for-block.result block.result (omega (arith, bounds.within))
    c.args.key.now c.requires.are bounds c.place_in-place.result c.deref-keys.result.now
    (c.deref-keys.ensures.value ∙ ap (λ b. b.items) block.is) c.place_in-place.ensures c.if-place-keys.false)
