use Rattle.std.proofs.Common.{◌≡◌, ◌+◌, ◌<◌, ◌++◌, All, map, take, vec_capacity, vec_len}
use Rattle.base_table.specs.Store.{code_or_any}
use Rattle.base_table.proofs.lines.push_codes.Given as goal

abbrev pub invariant-codes : goal.invariant-codes
invariant-codes l = record {
  put : l.codes.items ≡ l.fn.codes.items ++ map code_or_any (take l.dim l.tuple);
  len : vec_len l.codes ≡ vec_len l.fn.codes + l.dim;
  room : vec_capacity l.codes ≡ vec_capacity l.fn.codes;
  small : All (λ code. code < 4000000) (map code_or_any (take l.dim l.tuple));
}
