use Rattle.std.proofs.Common.{[], ◌∷◌, codes, decimal}
use Rattle.reply_text.specs.Words.{detail_texts}
use Rattle.reply_text.proofs.ShortFields.{begun-fields, field-more, fields-ended, more-fields}
use Rattle.reply_text.proofs.short.refused.Goals as goal

pub returns : goal.returns
returns c =
    let word = codes "refused" in
    let line = decimal c.args.line in
    let code = c.args.words.code.now in
    let begun = begun-fields word line _ c.begun-reply.ensures.text in
    let one = field-more word (line ∷ []) code _ _ begun c.field.ensures.text in
    let two = more-fields word (line ∷ code ∷ []) (detail_texts c.args.words.detail) _ _ one c.detail.ensures.text in
    fields-ended word (line ∷ code ∷ detail_texts c.args.words.detail) _ _ two c.ended.ensures
