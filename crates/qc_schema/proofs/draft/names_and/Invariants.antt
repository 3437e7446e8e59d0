use Rattle.std.proofs.Common.{◌≡◌, ◌≤◌, ◌+◌, map, take, vec_capacity, vec_len}
use Rattle.std.specs.Prelude.{string_bytes}
use Rattle.qc_schema.proofs.draft.names_and.Given as goal

abbrev pub invariant-loop-name : goal.invariant-loop-name
invariant-loop-name l = record {
  made : map string_bytes l.more.items ≡ map string_bytes (take l.name-index l.names.items);
  len : vec_len l.more ≡ l.name-index;
  room : vec_len l.names + 1 ≤ vec_capacity l.more;
}
