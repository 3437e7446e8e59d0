use Rattle.std.proofs.Common.{◌≡◌, ◌∙◌, ◌++◌, ◌∷◌, List, ap, arith, of_z, sym, take, to_z, w64, ℕ, ℤ}
use Rattle.std.proofs.lemmas.Int.{ints}
use Rattle.std.proofs.lemmas.List.{take_at}
use Rattle.std.proofs.lemmas.Result.{on_ok_weaker}
use Rattle.aggregates.specs.Texts.{amount_text}
use Rattle.reply_text.proofs.Records.{three-fields}
use Rattle.reply_text.proofs.totals.push_amounts.Goals as goal

pub returns : goal.returns
returns c =
    let out = c.args.out.now.items in
    let p = c.args.part in
    let scale = c.args.scale in
    let len = c.print_amount-len.result in
    let sum : to_z w64 (of_z w64 p.sum) ≡ p.sum = omega (arith, ints) in
    let least : to_z w64 (of_z w64 p.least) ≡ p.least = omega (arith, ints) in
    let greatest : to_z w64 (of_z w64 p.greatest) ≡ p.greatest = omega (arith, ints) in
    let cut : take len c.print_amount-len.new.out ≡ amount_text scale p.sum =
    ap (take len) c.print_amount-len.ensures.text
    ∙ take_at (amount_text scale (to_z w64 (of_z w64 p.sum))) _ len (sym c.print_amount-len.ensures.len)
    ∙ ap (amount_text scale) sum in
    let one = rw cut at c.in_ok-push_field.ensures in
    let two = rw (least, one) at c.in_ok-push_beside.ensures in
    on_ok_weaker c.push_beside-2.result (λ e. e
    ∙ ap (λ (z : ℤ). c.push_beside.new.out.items ++ 44 ∷ amount_text scale z) greatest
    ∙ ap (λ (z : List ℕ). z ++ 44 ∷ amount_text scale p.greatest) two
    ∙ three-fields out (amount_text scale p.sum) (amount_text scale p.least) (amount_text scale p.greatest))
    c.push_beside-2.ensures

pub push_beside-requires-clause-text : goal.push_beside-requires-clause-text
push_beside-requires-clause-text c =
    ap (take c.print_amount-len.result) c.print_amount-len.ensures.text
    ∙ take_at (amount_text c.args.scale (to_z w64 (of_z w64 c.args.part.sum))) _ c.print_amount-len.result
    (sym c.print_amount-len.ensures.len)

pub push_beside-requires-2-clause-text : goal.push_beside-requires-2-clause-text
push_beside-requires-2-clause-text c =
    ap (take c.print_amount-len.result) c.print_amount-len.ensures.text
    ∙ take_at (amount_text c.args.scale (to_z w64 (of_z w64 c.args.part.sum))) _ c.print_amount-len.result
    (sym c.print_amount-len.ensures.len)
