use Rattle.std.proofs.Common.{◌≡◌, ◌++◌, take}
use Rattle.aggregates.specs.Views.{agg_in}
use Rattle.reply_text.specs.Replies.{fields_text, parts_texts}
use Rattle.reply_text.proofs.totals.push_parts.Given as goal

abbrev pub invariant-loop-measure : goal.invariant-loop-measure
invariant-loop-measure l =
    let agg = l.total.agg.now in
    let measures = l.total.schema.now.measures in
    l.out.items ≡ l.fn.out.items
    ++ fields_text (parts_texts agg.count (take l.measure measures) (take l.measure (agg_in agg).parts))
