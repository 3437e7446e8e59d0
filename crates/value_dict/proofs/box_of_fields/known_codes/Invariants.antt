use Rattle.std.proofs.Common.{◌≡◌, filter, map, take}
use Rattle.value_dict.specs.Recoded.{HaveTexts, text_in}
use Rattle.value_dict.specs.Decoded.{has_text}
use Rattle.value_dict.proofs.box_of_fields.known_codes.Given as goal

abbrev pub invariant-texts : goal.invariant-texts
invariant-texts l = record {
  values : map (text_in l.dict.lists l.dim) l.codes.items ≡ filter (has_text l.dict.lists l.dim) (take l.k l.texts);
  within : HaveTexts l.dict.lists l.dim l.codes.items;
}
