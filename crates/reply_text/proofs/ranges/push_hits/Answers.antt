use Rattle.std.proofs.Common.{◌∙◌, sym, ap, ◌++◌, ℕ, List, Some, append_assoc, take}
use Rattle.std.specs.List.{flat_map}
use Rattle.std.proofs.lemmas.List.{take_all}
use Rattle.std.proofs.lemmas.Option.{slice_get-get_or}
use Rattle.range_query.specs.DecodedHits.{hit_in, decoded_hit, decoded_hits}
use Rattle.range_query.specs.declared.hit.Hit.{Hit}
use Rattle.reply_text.specs.Replies.{hit_text}
use Rattle.reply_text.proofs.DecodedCells.{item-after}
use Rattle.reply_text.proofs.ranges.push_hits.Goals as goal

pub hits-preserved : goal.hits-preserved
hits-preserved c =
    let lists = c.args.dict.now.lists in
    let hits = c.args.hits.now in
    let k = c.hits.hit-index in
    let hit = c.hit-item.result in
    let text = hit_text c.args.line c.args.schema.now.measures in
    let at = slice_get-get_or hits k hit c.hits-test.true ∙ ap (λ (h : Hit). Some h) (sym c.hit-item.is) in
    c.in_ok-push_hit.ensures c.args.line (c.as_bytes.ensures ∙ c.begun-start.ensures.text)
    ∙ ap (λ (z : List ℕ). z ++ text (decoded_hit lists (hit_in hit))) c.hits.invariant
    ∙ append_assoc c.args.out.now.items (flat_map text (decoded_hits lists (take k hits)))
    (text (decoded_hit lists (hit_in hit)))
    ∙ ap (λ (z : List ℕ). c.args.out.now.items ++ z)
    (sym (item-after text (λ (h : Hit). decoded_hit lists (hit_in h)) hits k hit at))

pub returns : goal.returns
returns c =
    c.hits.invariant
    ∙ ap (λ (hits : List Hit). c.args.out.now.items ++ flat_map (hit_text c.args.line c.args.schema.now.measures)
    (decoded_hits c.args.dict.now.lists hits)) (take_all c.hits.hit-index c.args.hits.now c.hits-test.false)
