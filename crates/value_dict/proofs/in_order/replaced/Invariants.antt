use Rattle.std.proofs.Common.{◌≡◌, ◌≤◌, length, map, take, vec_capacity, vec_len}
use Rattle.value_dict.proofs.in_order.replaced.Given as goal

abbrev pub invariant-codes : goal.invariant-codes
invariant-codes l = record {
  items : l.codes.items ≡ map (λ k. k.code) (take l.k l.keyed);
  len : vec_len l.codes ≡ l.k;
  room : length l.keyed ≤ vec_capacity l.codes;
}
