use Rattle.std.proofs.Common.{◌≡◌, ◌∙◌, ◌<◌, ◌++◌, ◌∷◌, [], ap, arith, filter, get_or, length, map, sym}
use Rattle.std.proofs.lemmas.Option.{get_or_from_slice_get}
use Rattle.cube_defs.specs.Text.{Text}
use Rattle.value_dict.specs.Recoded.{text_in}
use Rattle.value_dict.specs.Decoded.{has_text}
use Rattle.value_dict.proofs.AskedValues.{text-taken}
use Rattle.value_dict.proofs.box_of_fields.known_codes.Goals as goal

pub texts-preserved : goal.texts-preserved
texts-preserved c =
    let lists = c.args.dict.now.lists in
    let text : c.as_str.result.now ≡ get_or c.args.texts.now c.texts.k [] = c.as_str.ensures.value
    ∙ sym (get_or_from_slice_get c.args.texts.now c.texts.k c.get.result.now [] c.get.ensures) in
    let k : c.texts.k < length c.args.texts.now = omega (arith, c.texts-test.true, c.len-k-end.ensures) in
    record {
      values = text-taken lists c.args.dim c.texts.codes.items (has_text lists c.args.dim) c.texts.k c.args.texts.now k
          c.texts.invariant.values c.push_code.new.codes.items
          (c.in_ok-push_code.ensures.value
          ∙ ap (λ (t : Text). map (text_in lists c.args.dim) c.texts.codes.items
          ++ filter (has_text lists c.args.dim) (t ∷ [])) text);
      within = c.in_ok-push_code.ensures.within c.texts.invariant.within;
    }
