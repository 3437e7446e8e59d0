use Rattle.std.proofs.Common.{◌≡◌, ◌∙◌, ◌<◌, List, arith, ap, take, get_or, length}
use Rattle.std.proofs.lemmas.List.{get_or_read, length-take-le, take-take}
use Rattle.base_table.specs.Last.{bucket_in, last_of}
use Rattle.base_table.proofs.Chain.{IsOnWay, from_place, read_first}
use Rattle.base_table.proofs.chains.Chains.before.Given as given
use Rattle.base_table.proofs.chains.Chains.before.Goals as goal

-- the place is among those with links
linked : (g : given.Over) (c : goal.After-row_known-1 g)
    → c.args.place < length (take (length c.self.inside.links.before.items) c.self.inside.links.keys.items)
linked g c =
    let l = c.self.inside.links in
    omega (
      arith,
      length-take-le (length l.before.items) l.keys.items c.self.invariant.few,
      c.if-place-len.true,
      c.len.ensures,
      l.before.ok.0,
    )

-- the walk begins at the link of the place
way : (g : given.Over) (c : goal.After-row_known-1 g) → IsOnWay g.K.PartialEq.eq
    (bucket_in g.K.Numbered.number c.self.inside.links.multiplier (length c.self.inside.links.heads.items))
    c.index.result.now (take (length c.self.inside.links.before.items) c.self.inside.links.keys.items) c.args.place
    c.index-then-place-len.result.now
way g c =
    let l = c.self.inside.links in
    from_place g.K.PartialEq.eq g.K.Numbered.number g.met.K.Numbered.respects_eq l.multiplier l.heads.items
    (take (length l.before.items) l.keys.items) l.before.items c.self.invariant.chains c.index.result.now
    c.index-then-place-len.result.now c.args.place (linked g c)
    (read_first (length l.before.items) l.keys.items c.args.place c.index.result.now (linked g c) c.index.ensures
    c.index.result.now)
    (get_or_read l.before.items c.args.place c.index-then-place-len.result.now
    (omega (arith, c.if-place-len.true, c.len.ensures, l.before.ok.0)) c.index-then-place-len.ensures 0)

pub find_from-requires-clause-within : goal.find_from-requires-clause-within
find_from-requires-clause-within g c = (way g c).within

pub find_from-requires-clause-last : goal.find_from-requires-clause-last
find_from-requires-clause-last g c = (way g c).last

pub returns-then-place-len : goal.returns-then-place-len
returns-then-place-len g c = λ d.
    let l = c.self.inside.links in
    let p = c.args.place in
    let lt : p < length l.keys.items = omega (arith, c.requires, ap length c.self.view_is) in
    let key = get_or_read l.keys.items p c.index.result.now lt c.index.ensures d in
    let first : take p (take (length l.before.items) l.keys.items) ≡ take p l.keys.items
    = take-take p (length l.before.items) l.keys.items (omega (arith, c.if-place-len.true, c.len.ensures, l.before.ok.0)) in
    c.find_from.ensures ∙ (way g c.before).same ∙ ap (last_of (g.K.PartialEq.eq c.index.result.now)) first
    ∙ ap (λ k. last_of (g.K.PartialEq.eq k) (take p l.keys.items)) key
    ∙ ap (λ (ks : List g.row.K.Denot). last_of (g.K.PartialEq.eq (get_or ks p d)) (take p ks)) c.self.view_is
