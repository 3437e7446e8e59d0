use Rattle.std.proofs.Common.{append_assoc, ◌≡◌, ◌∙◌, ap, arith, ◌++◌, ◌+◌, ◌/◌, ◌%◌, ◌∷◌, [], List, ℕ, decimal}
use Rattle.std.proofs.lemmas.Fmt.{decimal_digit, decimal_step}
use Rattle.row_generator.proofs.rows.push_small.Goals as goal

pub returns-clause-text : goal.returns-clause-text
returns-clause-text c =
    let number = c.args.number in
    let first : decimal (number / 10) ≡ (48 + number / 10) ∷ [] = decimal_digit (number / 10) (omega arith) in
    let both : decimal number ≡ (48 + number / 10) ∷ (48 + number % 10) ∷ []
    = decimal_step number (omega arith) (omega arith) ∙ ap (λ (z : List ℕ). z ++ (48 + number % 10) ∷ []) first in
    rw both (c.in_ok-push_digit-2.ensures.text ∙ ap (λ (z : List ℕ). z ++ (48 + number % 10) ∷ []) c.in_ok-push_digit.ensures.text
    ∙ append_assoc c.args.out.now.items _ _)
