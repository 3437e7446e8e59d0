use Rattle.std.proofs.Common.{◌∙◌, decimal, map}
use Rattle.std.specs.Prelude.{codes}
use Rattle.value_dict.specs.Decoded.{decoded_cell}
use Rattle.reply_text.specs.Replies.{entry_text}
use Rattle.reply_text.proofs.Records.{record-end}
use Rattle.reply_text.proofs.classes.push_lower.Goals as goal

pub returns : goal.returns
returns c =
    let head = c.in_ok-push_record_start.ensures in
    rw head at c.in_ok-push.ensures.items
    ∙ record-end c.args.out.now.items (codes "lower") (decimal c.args.line)
    (map entry_text (decoded_cell c.args.coded.now.dict.now.lists c.args.coded.now.cell.now))
