use Rattle.std.proofs.Common.{◌≡◌, ◌≤◌, All, length, map, take, vec_capacity, vec_len}
use Rattle.value_dict.specs.Recoded.{text_in}
use Rattle.value_dict.specs.Starts.{HasStart}
use Rattle.value_dict.proofs.in_order.keyed_codes.Given as goal

abbrev pub invariant-codes : goal.invariant-codes
invariant-codes l = record {
  codes : map (λ k. k.code) l.keyed.items ≡ take l.k l.codes;
  starts : All (λ k. HasStart (text_in l.dict.lists l.dim k.code) k.start) l.keyed.items;
  len : vec_len l.keyed ≡ l.k;
  room : length l.codes ≤ vec_capacity l.keyed;
}
