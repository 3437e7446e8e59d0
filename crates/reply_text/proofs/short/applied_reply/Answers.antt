use Rattle.std.proofs.Common.{[], ◌∷◌, codes, decimal}
use Rattle.reply_text.proofs.ShortFields.{begun-fields, field-more, fields-ended}
use Rattle.reply_text.proofs.short.applied_reply.Goals as goal

pub returns : goal.returns
returns c =
    let word = codes "applied" in
    let line = decimal c.args.line in
    let records = decimal c.args.records in
    let classes = decimal c.args.classes in
    let begun = begun-fields word line _ c.begun-reply.ensures.text in
    let one = field-more word (line ∷ []) records _ _ begun c.number.ensures.text in
    let two = field-more word (line ∷ records ∷ []) classes _ _ one c.number-2.ensures.text in
    fields-ended word (line ∷ records ∷ classes ∷ []) _ _ two c.ended.ensures
