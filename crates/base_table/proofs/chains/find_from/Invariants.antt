use Rattle.std.proofs.Common.{length, take}
use Rattle.base_table.specs.Last.{bucket_in}
use Rattle.base_table.proofs.Chain.{IsOnWay}
use Rattle.base_table.proofs.chains.find_from.Given as goal

abbrev pub invariant-places : goal.invariant-places
invariant-places g l =
    IsOnWay g.K.PartialEq.eq (bucket_in g.K.Numbered.number l.links.multiplier (length l.links.heads.items)) l.key
    (take (length l.links.before.items) l.links.keys.items) l.start l.at

abbrev pub decreases-places : goal.decreases-places
decreases-places g l = l.at
