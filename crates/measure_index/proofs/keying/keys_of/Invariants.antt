use Rattle.std.proofs.Common.{◌≡◌, ◌≤◌, length, take, vec_capacity, vec_len}
use Rattle.std.specs.List.{AllZip}
use Rattle.measure_index.specs.ColumnKeys.{IsKey}
use Rattle.measure_index.proofs.keying.keys_of.Given as goal

abbrev pub invariant-classes : goal.invariant-classes
invariant-classes l = record {
  made : AllZip (IsKey l.kind) (take l.class-index l.classes) l.keys.items;
  len : vec_len l.keys ≡ l.class-index;
  room : length l.classes ≤ vec_capacity l.keys;
}
