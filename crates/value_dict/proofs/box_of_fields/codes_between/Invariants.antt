use Rattle.std.proofs.Common.{◌≡◌, filter, map, take}
use Rattle.value_dict.specs.Boxes.{is_between}
use Rattle.value_dict.specs.Recoded.{HaveTexts, text_in}
use Rattle.value_dict.specs.TextLists.{list_at}
use Rattle.value_dict.proofs.box_of_fields.codes_between.Given as goal

abbrev pub invariant-codes : goal.invariant-codes
invariant-codes l = record {
  texts : map (text_in l.dict.lists l.dim) l.codes.items ≡ filter (is_between l.low l.high)
      (take l.code (list_at l.dict l.dim));
  within : HaveTexts l.dict.lists l.dim l.codes.items;
}
