use Rattle.std.proofs.Common.{◌≡◌, ◌∙◌, [], ◌∷◌, List, eq-eqb, get_or, nat_eq, refl, sym}
use Rattle.std.proofs.lemmas.Bool.{cond-true}
use Rattle.aggregates.specs.Bounds.{zero_part}
use Rattle.aggregates.specs.declared.agg.Part.{Part}
use Rattle.qc_arena.proofs.OnePart.{one_part}
use Rattle.qc_arena.proofs.measure_columns.MeasureColumns.put_one.Goals as goal

pub returns-clause-here : goal.returns-clause-here
returns-clause-here c =
    let k = c.args.node in
    let parts : List Part = c.args.parts.now in
    let first : get_or c.put_part.new.column.items k zero_part ≡ get_or parts 0 zero_part
    = c.put_part.ensures.parts k ∙ cond-true (nat_eq k k) _ _ (eq-eqb k k refl) in
    (λ j. first j ∷ get_or (c.requires.second j) k zero_part ∷ get_or (c.requires.third j) k zero_part
    ∷ get_or (c.requires.fourth j) k zero_part ∷ [])
    ∙ sym (one_part parts c.told-parts c.requires.one)
