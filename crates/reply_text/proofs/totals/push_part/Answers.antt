use Rattle.std.proofs.Common.{◌∙◌, ap, ◌++◌, ◌∷◌, [], ℕ, List}
use Rattle.aggregates.specs.Texts.{amount_text, ratio_text}
use Rattle.aggregates.specs.Views.{agg_in}
use Rattle.cube_defs.specs.Answers.{part}
use Rattle.cube_defs.specs.Rows.{Fraction, Part, mean_of}
use Rattle.reply_text.specs.Replies.{fields_text}
use Rattle.reply_text.proofs.Records.{fourth-field}
use Rattle.reply_text.proofs.totals.push_part.Goals as goal

pub returns-clause-numbers : goal.returns-clause-numbers
returns-clause-numbers c =
    let out = c.args.out.now.items in
    let scale = c.args.scale in
    let p = c.part_at-part.result in
    let ratio = ratio_text (mean_of (part (agg_in c.args.agg.now) c.args.measure) c.args.agg.now.count scale) in
    c.in_ok-push_ratio.ensures
    ∙ ap (λ (f : Fraction). c.push_amounts.new.out.items ++ 44 ∷ ratio_text f) c.mean.ensures
    ∙ ap (λ (z : List ℕ). z ++ 44 ∷ ratio) c.in_ok-push_amounts.ensures
    ∙ fourth-field out (amount_text scale p.sum) (amount_text scale p.least) (amount_text scale p.greatest) ratio
    ∙ ap (λ (x : Part). out
    ++ fields_text (amount_text scale x.sum ∷ amount_text scale x.least ∷ amount_text scale x.greatest ∷ ratio
    ∷ [])) c.part_at-part.ensures.part
