use Rattle.std.proofs.Common.{List, subst, sym, ◌∙◌}
use Rattle.measure_index.specs.Blocks.{HasGone, joined}
use Rattle.measure_index.specs.Spots.{IsSpot}
use Rattle.measure_index.proofs.BlockLemmas.{Block, get_or_some, place_within}
use Rattle.measure_index.proofs.Comings.{go_from, go_not}
use Rattle.measure_index.proofs.blocks.remove_key.Goals as goal

pub returns-then-spot-clause-gone : goal.returns-then-spot-clause-gone
returns-then-spot-clause-gone c =
    let bs = c.args.blocks.now.items in
    let key = c.args.key.now in
    let spot = c.spot_of-spot.result in
    let is : IsSpot bs key spot
    = subst (λ (cs : List Block). IsSpot cs key spot) c.deref.ensures.value c.spot_of-spot.ensures in
    let block = get_or_some bs spot.block is.block in
    subst (λ b. HasGone key (joined bs) (joined c.join_small.new.blocks.items) b) (sym c.if-spot.true)
    (go_from key (joined bs) c.requires.rising (joined c.join_small.new.blocks.items) _
    (c.join_small.ensures.same ∙ c.take_out.ensures.taken)
    (place_within bs spot.block block is.block spot.place (is.there block c.if-spot.true)) is.place
    (sym c.if-spot.true ∙ is.found))

pub returns-else-spot-clause-gone : goal.returns-else-spot-clause-gone
returns-else-spot-clause-gone c =
    let bs = c.args.blocks.now.items in
    let key = c.args.key.now in
    let spot = c.spot_of-spot.result in
    let is : IsSpot bs key spot
    = subst (λ (cs : List Block). IsSpot cs key spot) c.deref.ensures.value c.spot_of-spot.ensures in
    subst (λ b. HasGone key (joined bs) (joined bs) b) (sym c.if-spot.false)
    (go_not key (joined bs) c.requires.rising (sym c.if-spot.false ∙ is.found))
