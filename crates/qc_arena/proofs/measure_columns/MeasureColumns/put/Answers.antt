use Rattle.std.proofs.Common.{◌≡◌, ◌∙◌, [], ◌∷◌, List, arith, eq-eqb, get_or, nat_eq, refl, sym}
use Rattle.std.proofs.lemmas.Bool.{cond-false, cond-true}
use Rattle.aggregates.specs.Bounds.{zero_part}
use Rattle.aggregates.specs.declared.agg.Part.{Part}
use Rattle.qc_arena.proofs.Imaged.{eq_apart}
use Rattle.qc_arena.proofs.OnePart.{four_parts}
use Rattle.qc_arena.proofs.measure_columns.MeasureColumns.put.Goals as goal

pub returns-clause-here : goal.returns-clause-here
returns-clause-here c =
    let k = c.args.node in
    let ps : List Part = c.args.parts.now in
    let same = eq-eqb k k refl in
    let first : get_or c.put_part.new.column.items k zero_part ≡ get_or ps 0 zero_part
    = c.put_part.ensures.parts k ∙ cond-true (nat_eq k k) _ _ same in
    let second : get_or c.put_part-2.new.column.items k zero_part ≡ get_or ps 1 zero_part
    = c.put_part-2.ensures.parts k ∙ cond-true (nat_eq k k) _ _ same in
    let third : get_or c.put_part-3.new.column.items k zero_part ≡ get_or ps 2 zero_part
    = c.put_part-3.ensures.parts k ∙ cond-true (nat_eq k k) _ _ same in
    let fourth : get_or c.put_part-4.new.column.items k zero_part ≡ get_or ps 3 zero_part
    = c.put_part-4.ensures.parts k ∙ cond-true (nat_eq k k) _ _ same in
    (λ j. first j ∷ second j ∷ third j ∷ fourth j ∷ []) ∙ sym (four_parts ps c.told-parts)

pub returns-clause-others : goal.returns-clause-others
returns-clause-others c = λ q n.
    let k = c.args.node in
    let apart = eq_apart k q (λ e. n (sym e)) in
    let first = c.put_part.ensures.parts q ∙ cond-false (nat_eq k q) _ _ apart in
    let second = c.put_part-2.ensures.parts q ∙ cond-false (nat_eq k q) _ _ apart in
    let third = c.put_part-3.ensures.parts q ∙ cond-false (nat_eq k q) _ _ apart in
    let fourth = c.put_part-4.ensures.parts q ∙ cond-false (nat_eq k q) _ _ apart in
    λ j. first j ∷ second j ∷ third j ∷ fourth j ∷ []

pub returns-clause-room : goal.returns-clause-room
returns-clause-room c = λ q h. record {
  first = omega (arith, h.first, c.put_part.ensures.room);
  second = omega (arith, h.second, c.put_part-2.ensures.room);
  third = omega (arith, h.third, c.put_part-3.ensures.room);
  fourth = omega (arith, h.fourth, c.put_part-4.ensures.room);
}
