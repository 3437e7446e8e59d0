use Rattle.std.proofs.Common.{◌≡◌, ◌∙◌, ◌<◌, ◌+◌, ◌∷◌, [], None, ap, arith, get_or, length, length-append, subst, sym}
use Rattle.std.specs.Option.{option_map}
use Rattle.std.proofs.lemmas.Option.{get_or_from_slice_get}
use Rattle.cube_defs.specs.Text.{text_cmp}
use Rattle.cell_core.specs.declared.fields.Field.{Field}
use Rattle.cell_core.specs.declared.fields.Field.TheVariants as fields
use Rattle.cube_laws.specs.Recoding.{BoxIsKnown, known_box}
use Rattle.value_dict.specs.Boxes.{AreFieldCodes, IsOrdered, fields_box, decoded_box}
use Rattle.value_dict.specs.Recoded.{has_code}
use Rattle.value_dict.specs.Decoded.{has_text}
use Rattle.value_dict.proofs.AskedValues.{asked-rises, box-pushed, box-told, choice-pushed, choice-small}
use Rattle.value_dict.proofs.Dict.box_of.Goals as goal

pub push-requires-clause-small : goal.push-requires-clause-small
push-requires-clause-small c =
    choice-small c.args.self.now c.dims.dim c.get.result.now c.in_ok-choice.choice c.dims-dim-end.ensures.dictionary
    (omega (arith, c.dims-test.true, c.dims-dim-end.ensures.value)) c.in_ok-choice.ensures

pub dims-preserved : goal.dims-preserved
dims-preserved c =
    let lists = c.args.self.now.lists in
    let new = choice-pushed c.dims.cells c.push.new.self c.in_ok-choice.choice c.in_ok-push.ensures.any
    c.in_ok-push.ensures.among in
    let field : get_or c.args.fields.now c.dims.dim fields.Any ≡ c.get.result.now
    = get_or_from_slice_get c.args.fields.now c.dims.dim c.get.result.now fields.Any c.get.ensures in
    let choice = option_map (λ codes. codes.items) c.in_ok-choice.choice in
    let asked = subst (λ (f : Field). AreFieldCodes lists c.dims.dim f choice) (sym field) c.in_ok-choice.ensures in
    record {
      long = ap length new ∙ length-append c.dims.cells (choice ∷ []) ∙ ap (λ n. n + 1) c.dims.invariant.long;
      asked = λ i l. subst (λ box. AreFieldCodes lists i (get_or c.args.fields.now i fields.Any) (get_or box i None))
          (sym new)
          (box-pushed lists c.args.fields.now c.dims.cells choice c.dims.dim c.dims.invariant.long
          c.dims.invariant.asked asked i l);
    }

whole : (c : goal.After-dims) → length c.dims.cells ≡ length c.args.self.now.lists
whole c = omega (arith, c.dims.invariant.long, c.dims-test.false, c.dims-dim-end.ensures.value)

told : (c : goal.After-dims)
    → (decoded_box c.args.self.now.lists c.dims.cells ≡ known_box (has_text c.args.self.now.lists) 0
    (fields_box c.args.self.now.lists 0 c.args.fields.now)) × BoxIsKnown (has_code c.args.self.now.lists) 0 c.dims.cells
told c =
    let lists = c.args.self.now.lists in
    box-told lists 0 c.args.fields.now c.dims.cells (whole c ∙ sym c.requires)
    (λ i l.
    let here : i ≡ 0 + i = omega arith in
    let below : i < c.dims.dim = omega (arith, l, c.requires, whole c, c.dims.invariant.long) in
    subst (λ n. AreFieldCodes lists n (get_or c.args.fields.now i fields.Any) (get_or c.dims.cells i None)) here
    (c.dims.invariant.asked i below))

pub returns-clause-value : goal.returns-clause-value
returns-clause-value c = (told c).0

pub returns-clause-known : goal.returns-clause-known
returns-clause-known c = (told c).1

pub returns-clause-order : goal.returns-clause-order
returns-clause-order c =
    subst (IsOrdered text_cmp) (sym (told c).0) (asked-rises c.args.self.now.lists 0 c.args.fields.now)

pub returns-clause-dims : goal.returns-clause-dims
returns-clause-dims c = whole c
