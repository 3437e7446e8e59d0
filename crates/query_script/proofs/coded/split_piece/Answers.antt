use Rattle.std.proofs.Common.{◌≡◌, ◌+◌, ◌∙◌, ◌∷◌, List, ℕ, ap, ap₂, arith, drop, suc, sym, take, ◌-◌}
use Rattle.std.proofs.lemmas.Str.{IsCharBoundary-after_ascii}
use Rattle.text_lines.specs.Plain.{pieces}
use Rattle.query_script.proofs.Commas.{cut_first, cut_nowhere}
use Rattle.query_script.proofs.coded.split_piece.Goals as goal

pub range_from-requires : goal.range_from-requires
range_from-requires c =
    let comma = c.first_comma-end.ensures.comma c.if-end-text.true in λ _.
    IsCharBoundary-after_ascii c.args.text.now c.first_comma-end.result c.utf8.text c.if-end-text.true
    (omega (arith, comma))

pub returns-then-end-text-clause-pieces : goal.returns-then-end-text-clause-pieces
returns-then-end-text-clause-pieces c =
    let text = c.args.text.now in
    let end = c.first_comma-end.result in
    let whole : end - 0 ≡ end = omega arith in
    let next : end + 1 ≡ suc end = omega arith in
    cut_first 44 text end c.if-end-text.true c.first_comma-end.ensures.before
    (c.first_comma-end.ensures.comma c.if-end-text.true)
    ∙ ap₂ (λ (l r : List ℕ). l ∷ pieces r) (ap (λ n. take n text) (sym whole) ∙ sym c.range.ensures.value)
    (ap (λ n. drop n text) (sym next) ∙ sym c.range_from.ensures.value)

pub returns-else-end-text-clause-pieces : goal.returns-else-end-text-clause-pieces
returns-else-end-text-clause-pieces c =
    cut_nowhere 44 c.args.text.now
    (λ i l. c.first_comma-end.ensures.before i (omega (arith, l, c.if-end-text.false)))
