use Rattle.std.proofs.Common.{◌≡◌, take, vec_len}
use Rattle.base_table.specs.Store.{restored}
use Rattle.base_table.proofs.presence.restore.Given as goal

abbrev pub invariant-places : goal.invariant-places
invariant-places l = record {
  marks : l.here.items ≡ restored (take l.place-index l.touched.items) l.fn.here.items;
  len : vec_len l.here ≡ vec_len l.fn.here;
}
