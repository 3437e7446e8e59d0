use Rattle.std.proofs.Common.{◌∙◌, codes, decimal, map}
use Rattle.aggregates.specs.Views.{agg_in}
use Rattle.value_dict.specs.Decoded.{decoded_cell}
use Rattle.reply_text.specs.Replies.{agg_texts, entry_text}
use Rattle.reply_text.proofs.Records.{record-more}
use Rattle.reply_text.proofs.points.push_point.Goals as goal

pub returns : goal.returns
returns c =
    let cell = map entry_text (decoded_cell c.args.dict.now.lists c.args.cell.now) in
    let agg = agg_texts c.args.schema.now.measures (agg_in c.args.total.now) in
    let numbers = rw c.in_ok-push_record_start.ensures at c.in_ok-push_agg.ensures in
    rw numbers at c.in_ok-push.ensures.items
    ∙ record-more c.args.out.now.items (codes "point") (decimal c.args.line) cell agg
