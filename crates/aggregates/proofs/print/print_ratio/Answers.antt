use Rattle.std.proofs.Common.{◌≡◌, [], ◌∷◌, ◌++◌, drop, ap, ◌∙◌, length-append, arith, decimal}
use Rattle.std.specs.Fmt.{signed_decimal}
use Rattle.aggregates.proofs.Printing.{between-texts, put-on}
use Rattle.aggregates.proofs.print.print_ratio.Goals as goal

pub returns-clause-text : goal.returns-clause-text
returns-clause-text c =
    let old = c.args.out.now in
    let num = c.as_bytes.result.now in
    let den = decimal c.args.value.now.den in
    let one = put-on old num (47 ∷ []) c.put-num.new.out c.put-slash.new.out c.put-num.result c.put-slash.result
    c.put-num.ensures.text (omega arith) (omega arith) c.put-slash.ensures.text in
    let two = put-on old (num ++ 47 ∷ []) den c.put-slash.new.out c.put_number.new.out c.put-slash.result
    c.put_number.result
    one (omega (arith, length-append num (47 ∷ []))) (omega arith) c.put_number.ensures.text in
    let same : num ≡ signed_decimal c.args.value.now.num = grind arith in
    two ∙ ap (λ x. x ++ drop c.put_number.result old) (between-texts num den 47)
    ∙ ap (λ x. x ++ 47 ∷ den ++ drop c.put_number.result old) same
