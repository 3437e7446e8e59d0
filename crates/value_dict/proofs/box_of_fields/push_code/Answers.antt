use Rattle.std.proofs.Common.{◌∙◌, ap, map, sym}
use Rattle.value_dict.specs.Recoded.{text_in}
use Rattle.value_dict.proofs.AskedValues.{code-pushed, no_code-pushed}
use Rattle.value_dict.proofs.box_of_fields.push_code.Goals as goal

pub returns-in_ok-push-in-Some-clause-value : goal.returns-in_ok-push-in-Some-clause-value
returns-in_ok-push-in-Some-clause-value c =
    ap (map (text_in c.args.dict.now.lists c.args.dim)) c.in_ok-push-in-Some.ensures.items
    ∙ code-pushed c.args.dict.now.lists c.args.dim c.args.codes.now.items c.args.text.now c.in-Some.code
    (sym c.in-Some.ensures.value)

pub returns-in-None-clause-value : goal.returns-in-None-clause-value
returns-in-None-clause-value c
    = no_code-pushed c.args.dict.now.lists c.args.dim c.args.codes.now.items c.args.text.now
    (sym c.in-None.ensures.value)
