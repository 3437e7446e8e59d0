use Rattle.std.proofs.Common.{◌≡◌, ◌∙◌, ◌<◌, [], All, ap, arith, get_or, length, map, refl, subst, sym}
use Rattle.std.proofs.lemmas.List.Elements.{All-push}
use Rattle.std.proofs.lemmas.Option.{get_or_from_slice_get}
use Rattle.value_dict.specs.Boxes.{is_between}
use Rattle.value_dict.specs.Recoded.{text_in}
use Rattle.value_dict.specs.TextLists.{list_at}
use Rattle.value_dict.proofs.AskedValues.{text-failed, text-passed}
use Rattle.value_dict.proofs.box_of_fields.codes_between.Goals as goal
use Rattle.value_dict.proofs.box_of_fields.codes_between.Goals.{then-is_within+in_ok-push, else-is_within}

pub codes-preserved : goal.codes-preserved
codes-preserved c =
    let lists = c.args.dict.now.lists in
    let texts = list_at c.args.dict.now c.args.dim in
    let p = is_between c.args.low.now c.args.high.now in
    let P = λ (code : _). code < length texts in
    let k : c.codes.code < length texts = omega (arith, c.codes-test.true, c.len-code-end.ensures.value) in
    let text : get_or texts c.codes.code [] ≡ c.text.result.now
    = get_or_from_slice_get texts c.codes.code c.text.result.now [] c.text.ensures.value in
    elim c.if-is_within.branch [
      | then-is_within+in_ok-push w ↦
          let items = ap (λ v. v.items) w.codes-is ∙ w.in_ok-push.ensures.items in
          record {
            texts = ap (map (text_in lists c.args.dim)) items
                ∙ text-passed lists c.args.dim c.codes.codes.items p c.codes.code texts k c.codes.invariant.texts
                c.codes.code (ap p text ∙ sym c.is_within.ensures ∙ w.if-is_within.true) refl;
            within = subst (All P) (sym items) (All-push P c.codes.codes.items c.codes.code c.codes.invariant.within k);
          }
      | else-is_within w ↦
          let items = ap (λ v. v.items) w.codes-is in
          record {
            texts = ap (map (text_in lists c.args.dim)) items
                ∙ text-failed lists c.args.dim c.codes.codes.items p c.codes.code texts k c.codes.invariant.texts
                (ap p text ∙ sym c.is_within.ensures ∙ w.if-is_within.false);
            within = subst (All P) (sym items) c.codes.invariant.within;
          }
    ]
