use Rattle.std.proofs.Common.{◌≡◌, arith}
use Rattle.value_dict.specs.Decoded.{text_of}
use Rattle.reply_text.proofs.DecodedCells.{told-long, told-text, told-within}
use Rattle.value_dict.specs.TextLists.{list_at}
use Rattle.reply_text.proofs.cells.push_entry.Goals as goal

pub text-requires-clause-dim : goal.text-requires-clause-dim
text-requires-clause-dim c
    = omega (arith, told-long c.args.coded.now.dict.now.lists c.args.coded.now.cell.now c.args.coded.now.texts, c.requires)

pub text-requires-clause-code : goal.text-requires-clause-code
text-requires-clause-code c =
    let coded = c.args.coded.now in
    told-within coded.dict.now.lists coded.cell.now c.args.dim c.in-Is.code coded.texts c.in-Is.ensures.value

pub returns-in-Is : goal.returns-in-Is
returns-in-Is c =
    let same : text_of (list_at c.args.coded.now.dict.now c.args.dim) c.in-Is.code ≡ c.text.result.now
    = told-text (list_at c.args.coded.now.dict.now c.args.dim) c.in-Is.code c.text.result.now c.text.ensures.value in
    rw (← c.in-Is.ensures.value, same) (rw c.as_bytes.ensures.value at c.push_value.ensures)
