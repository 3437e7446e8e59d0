use Rattle.std.proofs.Common.{◌∙◌, ◌++◌, ◌∷◌, List, ℕ, ap, append_assoc, decimal, map, sym}
use Rattle.std.specs.Prelude.{codes}
use Rattle.aggregates.specs.Views.{agg_in}
use Rattle.value_dict.specs.Decoded.{decoded_cell}
use Rattle.reply_text.specs.Replies.{agg_texts, entry_text, fields_text}
use Rattle.reply_text.proofs.Records.{record-more}
use Rattle.reply_text.proofs.ranges.push_hit.Goals as goal

pub returns : goal.returns
returns c = λ line is.
    let out = c.args.out.now.items in
    let cell = map entry_text (decoded_cell c.args.dict.now.lists c.args.hit.now.cell) in
    let agg = agg_texts c.args.schema.now.measures (agg_in c.args.hit.now.agg) in
    let start = c.in_ok-extend_from_slice.ensures.items ∙ ap (λ (z : List ℕ). out ++ z) is
    ∙ sym (append_assoc out (codes "cell") (44 ∷ decimal line)) in
    let first = c.in_ok-push_cell.ensures ∙ ap (λ (z : List ℕ). z ++ fields_text cell) start
    ∙ append_assoc (out ++ codes "cell") (44 ∷ decimal line) (fields_text cell) in
    let numbers = rw first at c.in_ok-push_agg.ensures in
    rw numbers at c.in_ok-push.ensures.items
    ∙ record-more out (codes "cell") (decimal line) cell agg
