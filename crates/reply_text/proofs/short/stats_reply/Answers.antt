use Rattle.std.proofs.Common.{[], ◌∷◌, codes, decimal}
use Rattle.reply_text.proofs.ShortFields.{begun-fields, field-more, fields-ended}
use Rattle.reply_text.proofs.short.stats_reply.Goals as goal

pub returns : goal.returns
returns c =
    let word = codes "stats" in
    let line = decimal c.args.line in
    let rows = decimal c.args.counts.rows in
    let classes = decimal c.args.counts.classes in
    let nodes = decimal c.args.counts.nodes in
    let edges = decimal c.args.counts.tree_edges in
    let links = decimal c.args.counts.links in
    let begun = begun-fields word line _ c.begun-reply.ensures.text in
    let one = field-more word (line ∷ []) rows _ _ begun c.number.ensures.text in
    let two = field-more word (line ∷ rows ∷ []) classes _ _ one c.number-2.ensures.text in
    let three = field-more word (line ∷ rows ∷ classes ∷ []) nodes _ _ two c.number-3.ensures.text in
    let four = field-more word (line ∷ rows ∷ classes ∷ nodes ∷ []) edges _ _ three c.edges.ensures.text in
    let five = field-more word (line ∷ rows ∷ classes ∷ nodes ∷ edges ∷ []) links _ _ four c.edges-2.ensures.text in
    fields-ended word (line ∷ rows ∷ classes ∷ nodes ∷ edges ∷ links ∷ []) _ _ five c.ended.ensures
