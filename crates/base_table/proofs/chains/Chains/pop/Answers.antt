use Rattle.std.proofs.Common.{ℕ, ◌∙◌, ap, arith, ◌++◌, ◌∷◌, [], List, Option, subst, vec_capacity, length, length-append}
use Rattle.std.specs.Option.{option_to_list}
use Rattle.base_table.specs.Last.{AreChains}
use Rattle.base_table.proofs.Chain.{all_linked, popped}
use Rattle.base_table.proofs.chains.Chains.pop.Goals as goal

pub invariant_of-self : goal.invariant_of-self
invariant_of-self g c =
    let l = c.link_rest.new.links in
    let keys = c.pop.ensures.items
    ∙ ap (λ (o : Option g.row.K.Denot). c.pop.new.self.items ++ option_to_list o) c.unwrap-key.ensures in
    let before = c.pop-2.ensures.items
    ∙ ap (λ (o : Option ℕ). c.pop-2.new.self.items ++ option_to_list o) c.unwrap-head.ensures in
    let less = popped g.K.Numbered.number l.multiplier l.heads.items c.pop.new.self.items c.unwrap-key.result
    c.pop-2.new.self.items c.unwrap-head.result c.bucket-at.result
    (subst (λ (bs : List ℕ). AreChains g.K.Numbered.number l.multiplier l.heads.items
    (c.pop.new.self.items ++ c.unwrap-key.result ∷ []) bs) before
    (subst (λ (ks : List g.row.K.Denot). AreChains g.K.Numbered.number l.multiplier l.heads.items ks l.before.items)
    keys c.link_rest.ensures.chains))
    c.bucket-at.ensures.within c.bucket-at.ensures.bucket in
    let was = ap (λ (ks : List g.row.K.Denot). length ks) (ap (λ (v : _). v.items) c.link_rest.ensures.keys) in
    let fewer = ap length keys ∙ length-append c.pop.new.self.items (c.unwrap-key.result ∷ []) in
    all_linked g.K.Numbered.number l.multiplier _ c.pop.new.self.items c.pop-2.new.self.items
    (vec_capacity c.pop-2.new.self) _ less (omega (arith, c.pop-2.new.self.ok.0, c.pop-2.new.self.ok.1))
    (λ more. omega (arith, more, fewer, was, c.link_rest.ensures.buckets, c.self.invariant.some (omega (arith, fewer, was))))
