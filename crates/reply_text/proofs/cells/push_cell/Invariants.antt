use Rattle.std.proofs.Common.{◌≡◌, ◌++◌, map, take}
use Rattle.value_dict.specs.Decoded.{decoded_cell}
use Rattle.reply_text.specs.Replies.{entry_text, fields_text}
use Rattle.reply_text.proofs.cells.push_cell.Given as goal

abbrev pub invariant-dims : goal.invariant-dims
invariant-dims l = l.out.items ≡ l.fn.out.items
    ++ fields_text (map entry_text (decoded_cell l.coded.dict.now.lists (take l.dim l.coded.cell.now)))
