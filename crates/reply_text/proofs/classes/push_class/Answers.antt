use Rattle.std.proofs.Common.{◌∙◌, append_assoc, decimal, map}
use Rattle.std.specs.Prelude.{codes}
use Rattle.std.specs.List.{flat_map}
use Rattle.aggregates.specs.Views.{agg_in}
use Rattle.value_dict.specs.Decoded.{decoded_cell}
use Rattle.reply_text.specs.Replies.{agg_texts, cell_text, entry_text, lower_text}
use Rattle.reply_text.proofs.Records.{record-more}
use Rattle.reply_text.proofs.classes.push_class.Goals as goal

pub returns : goal.returns
returns c =
    let lists = c.args.dict.now.lists in
    let upper = decoded_cell lists c.args.class.now.upper in
    let agg = agg_texts c.args.schema.now.measures (agg_in c.args.class.now.agg) in
    let out = c.args.out.now.items in
    let numbers = rw c.in_ok-push_record_start.ensures at c.in_ok-push_agg.ensures in
    let record_of = rw numbers at c.in_ok-push.ensures.items
    ∙ record-more out (codes "class") (decimal c.args.line) (map entry_text upper) agg in
    let more = flat_map (lower_text c.args.line) (map (decoded_cell lists) c.args.class.now.lowers) in
    rw (← append_assoc out (cell_text (codes "class") c.args.line upper agg) more, ← record_of) c.push_lowers.ensures
