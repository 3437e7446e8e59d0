use Rattle.std.proofs.Common.{◌∙◌, [], Some, ap₂, filter, get_or, subst, sym}
use Rattle.cube_defs.specs.Text.{Text, text_cmp}
use Rattle.cube_defs.specs.Tree.{distinct}
use Rattle.cell_core.specs.declared.fields.Field.{Field}
use Rattle.value_dict.specs.Boxes.{AreFieldCodes, is_between}
use Rattle.value_dict.proofs.AskedValues.{asked-all, asked-among, asked-between}
use Rattle.value_dict.proofs.Dict.choice_of.Goals as goal

pub returns-in_ok-sorted-in-All : goal.returns-in_ok-sorted-in-All
returns-in_ok-sorted-in-All c =
    let lists = c.args.self.now.lists in
    subst (λ (field : Field). AreFieldCodes lists c.args.dim field (Some c.in_ok-sorted-in-All.sorted.items)) (sym c.in-All.is)
    (asked-all lists c.args.dim c.in_ok-codes-in-All.codes.items c.in_ok-sorted-in-All.sorted.items c.in_ok-sorted-in-All.ensures.value
    (c.in_ok-sorted-in-All.ensures.within c.in_ok-codes-in-All.ensures.within) c.in_ok-codes-in-All.ensures.value)

pub returns-in_ok-sorted-in-Among : goal.returns-in_ok-sorted-in-Among
returns-in_ok-sorted-in-Among c =
    let lists = c.args.self.now.lists in
    subst (λ (field : Field). AreFieldCodes lists c.args.dim field (Some c.in_ok-sorted-in-Among.sorted.items))
    (sym c.in-Among.is)
    (asked-among lists c.args.dim c.in_ok-codes-in-Among.codes.items c.in_ok-sorted-in-Among.sorted.items
    c.in_ok-sorted-in-Among.ensures.value (c.in_ok-sorted-in-Among.ensures.within c.in_ok-codes-in-Among.ensures.within)
    c.in-Among.texts c.in_ok-codes-in-Among.ensures.value)

pub returns-in_ok-codes-in-Between : goal.returns-in_ok-codes-in-Between
returns-in_ok-codes-in-Between c =
    let lists = c.args.self.now.lists in
    let texts = get_or lists c.args.dim [] in
    subst (λ (field : Field). AreFieldCodes lists c.args.dim field (Some c.in_ok-codes-in-Between.codes.items))
    (sym c.in-Between.is)
    (asked-between lists c.args.dim c.in_ok-codes-in-Between.codes.items c.in-Between.low c.in-Between.high
    (c.in_ok-codes-in-Between.ensures.value
    ∙ ap₂ (λ (low high : Text). distinct text_cmp (filter (is_between low high) texts)) c.as_str.ensures.value
    c.as_str-in-Between.ensures.value)
    c.in_ok-codes-in-Between.ensures.within)
