use Rattle.std.proofs.Common.{◌++◌, ◌∷◌, append_assoc, decimal, map}
use Rattle.value_dict.specs.Decoded.{decoded_cell}
use Rattle.reply_text.specs.Replies.{entry_text, fields_text}
use Rattle.reply_text.proofs.cells.push_record_start.Goals as goal

pub returns : goal.returns
returns c =
    let number = rw (c.from.ensures, c.in_ok-extend_from_slice.ensures.items) at c.in_ok-push_number.ensures in
    let cell = rw number at c.push_cell.ensures in
    rw (append_assoc (c.args.out.now.items ++ c.args.word.now) (44 ∷ decimal c.args.line)
    (fields_text (map entry_text (decoded_cell c.args.coded.now.dict.now.lists c.args.coded.now.cell.now)))) at cell
