use Rattle.std.proofs.Common.{◌≡◌, ◌<◌, ◌+◌, ◌-◌, ◌∙◌, Bool, true, false, cond, arith, ap, sym, get_or, length, take}
use Rattle.std.proofs.lemmas.List.{get_or_read}
use Rattle.base_table.specs.Last.{last_of}
use Rattle.base_table.proofs.Chain.{last_more}
use Rattle.base_table.proofs.chains.last_unlinked.Goals as goal

pub returns-then-eq-clause-some : goal.returns-then-eq-clause-some
returns-then-eq-clause-some g c =
    let keys = c.args.links.now.keys.items in
    let key = c.args.key.now in
    let eq = g.K.PartialEq.eq key in
    let k = c.places.at - 1 in
    let next : k + 1 ≡ c.places.at = omega (arith, c.places-test.true) in
    let lt : k < length keys = omega (arith, c.places.invariant.within, c.requires.within, next) in
    let at = get_or_read keys k c.index.result.now lt c.index.ensures key in
    let same : eq (get_or keys k key) ≡ true = grind (arith, at, c.eq.ensures, c.if-eq.true) in
    sym next ∙ sym (ap (λ (b : Bool). cond b (k + 1) (last_of eq (take k keys))) same) ∙ sym (last_more eq keys k key lt)
    ∙ ap (λ n. last_of eq (take n keys)) next ∙ c.places.invariant.same

pub places-preserved : goal.places-preserved
places-preserved g c =
    let keys = c.args.links.now.keys.items in
    let key = c.args.key.now in
    let eq = g.K.PartialEq.eq key in
    let k = c.places.at - 1 in
    let next : k + 1 ≡ c.places.at = omega (arith, c.places-test.true) in
    let lt : k < length keys = omega (arith, c.places.invariant.within, c.requires.within, next) in
    let at = get_or_read keys k c.index.result.now lt c.index.ensures key in
    let other : eq (get_or keys k key) ≡ false = grind (arith, at, c.eq.ensures, c.if-eq.false) in
    record {
      linked = omega (arith, c.places-test.true, c.args.links.now.before.ok.0);
      within = omega (arith, c.places.invariant.within, next);
      same = sym (ap (λ (b : Bool). cond b (k + 1) (last_of eq (take k keys))) other) ∙ sym (last_more eq keys k key lt)
          ∙ ap (λ n. last_of eq (take n keys)) next ∙ c.places.invariant.same;
    }
