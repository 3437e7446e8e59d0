use Rattle.std.proofs.Common.{◌≡◌, ◌-◌, ◌≤◌, length, take, vec_capacity}
use Rattle.base_table.specs.Last.{AreChains}
use Rattle.base_table.proofs.chains.link_on.Given as goal

abbrev pub invariant-keys : goal.invariant-keys
invariant-keys g l = record {
  chains : AreChains g.K.Numbered.number l.links.multiplier l.links.heads.items
      (take (length l.links.before.items) l.links.keys.items) l.links.before.items;
  keys : l.links.keys ≡ l.initial.links.keys;
  few : length l.links.before.items ≤ length l.links.keys.items;
  heads : length l.links.heads.items ≡ length l.initial.links.heads.items;
  room : vec_capacity l.links.before ≡ vec_capacity l.initial.links.before;
  buckets : vec_capacity l.links.heads ≡ vec_capacity l.initial.links.heads;
}

abbrev pub decreases-keys : goal.decreases-keys
decreases-keys g l = length l.links.keys.items - length l.links.before.items
