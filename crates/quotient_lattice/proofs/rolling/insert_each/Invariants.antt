use Rattle.std.proofs.Common.{◌≡◌, map, nat_eq, take}
use Rattle.indexmap.specs.IndexSet.{insert_all}
use Rattle.quotient_lattice.specs.NodeCells.{number_of}
use Rattle.quotient_lattice.proofs.rolling.insert_each.Given as goal

abbrev pub invariant-found : goal.invariant-found
invariant-found l = l.seen.keys ≡ insert_all nat_eq l.fn.seen.keys (map number_of (take l.k l.found.items))
