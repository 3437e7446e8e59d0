use Rattle.std.proofs.Common.{◌≡◌, ◌≤◌, length, take}
use Rattle.base_table.specs.Last.{last_of}
use Rattle.base_table.proofs.chains.last_unlinked.Given as goal

abbrev pub invariant-places : goal.invariant-places
invariant-places g l = record {
  linked : length l.links.before.items ≤ l.at;
  within : l.at ≤ l.place;
  same : last_of (g.K.PartialEq.eq l.key) (take l.at l.links.keys.items)
      ≡ last_of (g.K.PartialEq.eq l.key) (take l.place l.links.keys.items);
}

abbrev pub decreases-places : goal.decreases-places
decreases-places g l = l.at
