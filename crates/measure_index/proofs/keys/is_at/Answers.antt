use Rattle.std.proofs.Common.{◌≤◌, ◌∙◌, ap, arith, le-ltb, length, sym}
use Rattle.std.specs.Ordering.{is_eq}
use Rattle.measure_index.proofs.KeyLemmas.{at_place, past_all}
use Rattle.measure_index.proofs.keys.is_at.Goals as goal

pub returns-then-place-items : goal.returns-then-place-items
returns-then-place-items g c =
    let item = c.index-items-place in
    c.is_eq.ensures ∙ ap is_eq (c.cmp.ensures ∙ ap (λ x. g.K.Ord.cmp x c.args.key.now) item.is)
    ∙ at_place g.met.K.Ord.total c.args.items.now c.args.key.now c.args.place c.requires.sorted c.requires.place
    item.result c.if-place-items.true

pub returns-else-place-items : goal.returns-else-place-items
returns-else-place-items g c =
    let past : length c.args.items.now ≤ c.args.place = omega (arith, c.if-place-items.false) in
    le-ltb c.args.place _ past
    ∙ sym (past_all g.met.K.Ord.total c.args.items.now c.args.key.now c.args.place c.requires.sorted c.requires.place
    past)
