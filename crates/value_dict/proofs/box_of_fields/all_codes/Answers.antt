use Rattle.std.proofs.Common.{◌∙◌, ◌+◌, ◌<◌, ℕ, ◌∷◌, ◌++◌, [], All, List, ap, arith, get_or, length, map, subst, sym}
use Rattle.std.proofs.lemmas.List.{map-append, take_more}
use Rattle.std.proofs.lemmas.List.Elements.{All-push}
use Rattle.cube_defs.specs.Text.{Text}
use Rattle.value_dict.specs.Recoded.{text_in}
use Rattle.value_dict.specs.TextLists.{list_at}
use Rattle.value_dict.proofs.box_of_fields.all_codes.Goals as goal

pub codes-preserved : goal.codes-preserved
codes-preserved c =
    let lists = c.args.dict.now.lists in
    let texts = list_at c.args.dict.now c.args.dim in
    let P = λ (code : _). code < length texts in
    let k : c.codes.code < length texts = omega (arith, c.codes-test.true, c.len-len.ensures.value) in
    let items = c.push_reserved.ensures.items in
    record {
      texts = ap (map (text_in lists c.args.dim)) items
          ∙ map-append (text_in lists c.args.dim) c.codes.codes.items (c.codes.code ∷ [])
          ∙ ap (λ (xs : List Text). xs ++ get_or texts c.codes.code [] ∷ []) c.codes.invariant.texts
          ∙ sym (take_more texts c.codes.code [] k);
      within = subst (All P) (sym items) (All-push P c.codes.codes.items c.codes.code c.codes.invariant.within k);
      len = c.push_reserved.ensures.len ∙ ap (λ (n : ℕ). n + 1) c.codes.invariant.len;
      room = rw (c.push_reserved.ensures.capacity) c.codes.invariant.room;
    }
