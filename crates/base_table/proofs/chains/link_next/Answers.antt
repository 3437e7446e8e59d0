use Rattle.std.proofs.Common.{◌≡◌, ◌∙◌, ◌+◌, ◌++◌, ◌∷◌, [], ℕ, List, arith, ap, sym, subst, take, length, get_or, set, length-append}
use Rattle.std.proofs.lemmas.List.{get_or_read, length-take-le, take_more}
use Rattle.base_table.specs.Last.{AreChains}
use Rattle.base_table.proofs.Chain.{pushed}
use Rattle.base_table.proofs.chains.link_next.Goals as goal

pub returns-clause-chains : goal.returns-clause-chains
returns-clause-chains g c =
    let l = c.args.links.now in
    let n = length l.before.items in
    let place : c.len-place.result ≡ n = omega (arith, c.len-place.ensures, l.before.ok.0) in
    let key = c.index.result.now in
    let head = c.index-2.result.now in
    let at = c.bucket-at.result in
    let linked : length (take n l.keys.items) ≡ n = length-take-le n l.keys.items (omega (arith, c.requires.more)) in
    let head_is = get_or_read l.heads.items at head c.bucket-at.ensures.within c.index-2.ensures 0 in
    let more : take (length (l.before.items ++ head ∷ [])) l.keys.items ≡ take n l.keys.items ++ key ∷ [] =
    ap (λ m. take m l.keys.items) (length-append l.before.items (head ∷ []))
    ∙ take_more l.keys.items n key c.requires.more
    ∙ ap (λ k. take n l.keys.items ++ k ∷ []) (sym (c.index.ensures ∙ ap (λ m. get_or l.keys.items m key) place)) in
    let made = pushed g.K.Numbered.number l.multiplier l.heads.items (take n l.keys.items) key l.before.items head at
    c.requires.chains (omega (arith, linked, c.requires.more, c.requires.small)) c.bucket-at.ensures.within
    c.bucket-at.ensures.bucket head_is in
    let placed = subst (λ m. AreChains g.K.Numbered.number l.multiplier (set l.heads.items at m)
    (take n l.keys.items ++ key ∷ []) (l.before.items ++ head ∷ [])) (omega (arith, linked, place)) made in
    subst (λ (bs : List ℕ). AreChains g.K.Numbered.number l.multiplier (set l.heads.items at (c.len-place.result + 1))
    (take (length bs) l.keys.items) bs) (sym c.push_reserved.ensures.items)
    (subst (λ (ks : List g.row.K.Denot). AreChains g.K.Numbered.number l.multiplier
    (set l.heads.items at (c.len-place.result + 1)) ks (l.before.items ++ head ∷ [])) (sym more) placed)
