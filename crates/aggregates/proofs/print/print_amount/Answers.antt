use Rattle.std.proofs.Common.{◌≡◌, ◌/◌, ◌^◌, ◌++◌, nat_abs, length, drop, ap, ap₂, ◌∙◌, length-append, arith, decimal, w64}
use Rattle.std.proofs.lemmas.Int.{to_z-of_z}
use Rattle.aggregates.specs.Texts.{places_text, sign_text}
use Rattle.aggregates.proofs.Printing.{put-on}
use Rattle.aggregates.proofs.print.print_amount.Goals as goal

pub returns-clause-text : goal.returns-clause-text
returns-clause-text c =
    let n = c.unsigned_abs-magnitude.result in
    let whole = n / c.power_of_ten.result in
    let old = c.args.out.now in
    let sign = sign_text c.args.value in
    let value = to_z-of_z w64 c.args.value c.ranges.value in
    let sized : c.put_sign-sign.result ≡ length sign = c.put_sign-sign.ensures.end
    ∙ ap (λ v. length (sign_text v)) value in
    let one = put-on old sign (decimal whole) c.put_sign-sign.new.out c.put_number-whole.new.out c.put_sign-sign.result
    c.put_number-whole.result
    (c.put_sign-sign.ensures.text ∙ ap (λ v. sign_text v ++ drop c.put_sign-sign.result old) value) sized
    (omega arith) c.put_number-whole.ensures.text in
    let two = put-on old (sign ++ decimal whole) (places_text c.args.scale n) c.put_number-whole.new.out
    c.put_places.new.out c.put_number-whole.result c.put_places.result
    one (omega (arith, sized, length-append sign (decimal whole))) (omega arith) c.put_places.ensures.text in
    let same : n ≡ nat_abs c.args.value = grind arith in
    let quotient : whole ≡ nat_abs c.args.value / 10 ^ c.args.scale
    = ap₂ (λ a b. a / b) same c.power_of_ten.ensures.value in
    two ∙ ap₂ (λ q m. sign ++ decimal q ++ places_text c.args.scale m ++ drop c.put_places.result old) quotient same
