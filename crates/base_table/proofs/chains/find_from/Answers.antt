use Rattle.std.proofs.Common.{◌≡◌, ◌∙◌, true, ◌+◌, ◌-◌, ◌%◌, arith, ap, sym, subst, false, get_or, length, take}
use Rattle.std.proofs.lemmas.List.{get_or_read}
use Rattle.base_table.specs.Last.{bucket_in}
use Rattle.base_table.proofs.Chain.{IsOnWay, met, nearer, onward, read_first}
use Rattle.base_table.proofs.chains.find_from.Goals as goal

pub places-smaller : goal.places-smaller
places-smaller g c =
    let l = c.args.links.now in
    let ks = take (length l.before.items) l.keys.items in
    let bucket = bucket_in g.K.Numbered.number l.multiplier (length l.heads.items) in
    let k = c.places.at - 1 in
    let next : k + 1 ≡ c.places.at = omega (arith, c.places-test.true) in
    let way = subst (IsOnWay g.K.PartialEq.eq bucket c.args.key.now ks c.args.start)
    (sym next) c.places.invariant in
    let near = nearer g.K.PartialEq.eq bucket
    (λ x y e. ap (λ n. n % length l.heads.items) (g.met.K.Numbered.respects_eq l.multiplier x y e)) c.args.key.now
    ks c.args.start k way l.before.items c.requires.chains.linked c.args.key.now in
    let is = get_or_read l.before.items k c.index-at.result.now
    (omega (arith, way.within, c.requires.chains.linked.len)) c.index-at.ensures 0 in
    omega (arith, near, is, next)

pub places-preserved : goal.places-preserved
places-preserved g c =
    let l = c.args.links.now in
    let ks = take (length l.before.items) l.keys.items in
    let bucket = bucket_in g.K.Numbered.number l.multiplier (length l.heads.items) in
    let k = c.places.at - 1 in
    let next : k + 1 ≡ c.places.at = omega (arith, c.places-test.true) in
    let way = subst (IsOnWay g.K.PartialEq.eq bucket c.args.key.now ks c.args.start)
    (sym next) c.places.invariant in
    let at = read_first (length l.before.items) l.keys.items k c.index.result.now (omega (arith, way.within))
    c.index.ensures c.args.key.now in
    let apart : g.K.PartialEq.eq c.args.key.now (get_or ks k c.args.key.now) ≡ false
    = grind (arith, at, c.ne.ensures, c.if-ne.true) in
    let is = get_or_read l.before.items k c.index-at.result.now
    (omega (arith, way.within, c.requires.chains.linked.len)) c.index-at.ensures 0 in
    subst (IsOnWay g.K.PartialEq.eq bucket c.args.key.now ks c.args.start) (sym is)
    (onward g.K.PartialEq.eq bucket
    (λ x y e. ap (λ n. n % length l.heads.items) (g.met.K.Numbered.respects_eq l.multiplier x y e)) c.args.key.now
    ks c.args.start k way l.before.items c.requires.chains.linked c.args.key.now apart)

pub returns-else-ne : goal.returns-else-ne
returns-else-ne g c =
    let l = c.args.links.now in
    let ks = take (length l.before.items) l.keys.items in
    let bucket = bucket_in g.K.Numbered.number l.multiplier (length l.heads.items) in
    let k = c.places.at - 1 in
    let next : k + 1 ≡ c.places.at = omega (arith, c.places-test.true) in
    let way = subst (IsOnWay g.K.PartialEq.eq bucket c.args.key.now ks c.args.start)
    (sym next) c.places.invariant in
    let at = read_first (length l.before.items) l.keys.items k c.index.result.now (omega (arith, way.within))
    c.index.ensures c.args.key.now in
    let same : g.K.PartialEq.eq c.args.key.now (get_or ks k c.args.key.now) ≡ true
    = grind (arith, at, c.ne.ensures, c.if-ne.false) in
    sym next
    ∙ met g.K.PartialEq.eq bucket
    (λ x y e. ap (λ n. n % length l.heads.items) (g.met.K.Numbered.respects_eq l.multiplier x y e)) c.args.key.now
    ks c.args.start k way c.args.key.now same

pub index-at-requires : goal.index-at-requires
index-at-requires g c =
    omega (arith, c.places.invariant.within, c.places-test.true, c.requires.chains.linked.len, c.args.links.now.before.ok.0)
