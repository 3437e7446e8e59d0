use Rattle.std.proofs.Common.{List, length, subst, sym, ◌<◌}
use Rattle.measure_index.proofs.blocks.spot_after_split.Goals as goal

pub spot_of-requires-clause-some : goal.spot_of-requires-clause-some
spot_of-requires-clause-some c = subst (λ (bs : List _). 0 < length bs) (sym c.deref.ensures.value) c.in_ok-split.ensures.some
