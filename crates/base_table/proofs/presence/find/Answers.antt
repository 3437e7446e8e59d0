use Rattle.std.proofs.Common.{◌≡◌, ◌-◌, ◌<◌, ◌∙◌, arith, false, length, sym, suc, map, nat_eq}
use Rattle.std.proofs.lemmas.List.{get_or_default}
use Rattle.base_table.specs.Last.{last_of}
use Rattle.base_table.specs.Store.{id_of}
use Rattle.base_table.proofs.Placed.{find_found, find_gone, find_none, last_bound}
use Rattle.base_table.proofs.presence.find.Goals as goal

pub returns-then-last-eq0-clause-none : goal.returns-then-last-eq0-clause-none
returns-then-last-eq0-clause-none c
    = find_none c.args.here.now.items c.args.store.now.rows c.requires.places c.requires.last c.args.id
    (sym c.last-last.ensures ∙ c.if-last-eq0.true)

pub index-requires : goal.index-requires
index-requires c = omega (
  arith,
  c.last-last.ensures,
  last_bound c.args.here.now.items c.args.store.now.rows c.requires.places c.requires.last c.args.id,
)

pub returns-then-index-clause-found : goal.returns-then-index-clause-found
returns-then-index-clause-found c =
    let at : last_of (nat_eq c.args.id) (map id_of c.args.store.now.rows) ≡ suc (c.last-last.result - 1)
    = omega (arith, c.last-last.ensures) in
    let lt : c.last-last.result - 1 < length c.args.here.now.items
    = omega (
      arith,
      c.last-last.ensures,
      last_bound c.args.here.now.items c.args.store.now.rows c.requires.places c.requires.last c.args.id,
    ) in
    find_found c.args.here.now.items c.args.store.now.rows c.requires.places c.requires.last c.args.id
    (c.last-last.result - 1) at
    (get_or_default c.args.here.now.items (c.last-last.result - 1) false c.index.result.now lt ∙ sym c.index.ensures
    ∙ c.if-index.true)

pub returns-else-index-clause-none : goal.returns-else-index-clause-none
returns-else-index-clause-none c =
    let at : last_of (nat_eq c.args.id) (map id_of c.args.store.now.rows) ≡ suc (c.last-last.result - 1)
    = omega (arith, c.last-last.ensures) in
    let lt : c.last-last.result - 1 < length c.args.here.now.items
    = omega (
      arith,
      c.last-last.ensures,
      last_bound c.args.here.now.items c.args.store.now.rows c.requires.places c.requires.last c.args.id,
    ) in
    find_gone c.args.here.now.items c.args.store.now.rows c.requires.places c.requires.last c.args.id
    (c.last-last.result - 1) at
    (get_or_default c.args.here.now.items (c.last-last.result - 1) false c.index.result.now lt ∙ sym c.index.ensures
    ∙ c.if-index.false)
