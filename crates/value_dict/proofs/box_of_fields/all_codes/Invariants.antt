use Rattle.std.proofs.Common.{◌≡◌, ◌≤◌, map, take, vec_capacity, vec_len}
use Rattle.value_dict.specs.Recoded.{HaveTexts, text_in}
use Rattle.value_dict.specs.TextLists.{list_at}
use Rattle.value_dict.proofs.box_of_fields.all_codes.Given as goal

abbrev pub invariant-codes : goal.invariant-codes
invariant-codes l = record {
  texts : map (text_in l.dict.lists l.dim) l.codes.items ≡ take l.code (list_at l.dict l.dim);
  within : HaveTexts l.dict.lists l.dim l.codes.items;
  len : vec_len l.codes ≡ l.code;
  room : l.len ≤ vec_capacity l.codes;
}
