use Rattle.std.proofs.Common.{◌≡◌, ◌∙◌, ◌++◌, ◌∷◌, List, ap, arith, of_z, sym, take, to_z, w64, ℕ}
use Rattle.std.proofs.lemmas.Int.{ints}
use Rattle.std.proofs.lemmas.List.{take_at}
use Rattle.std.proofs.lemmas.Result.{on_ok_weaker}
use Rattle.aggregates.specs.Texts.{amount_text}
use Rattle.reply_text.proofs.totals.push_amount.Goals as goal

pub returns : goal.returns
returns c =
    let len = c.print_amount-len.result in
    let amount : to_z w64 (of_z w64 c.args.amount) ≡ c.args.amount = omega (arith, ints) in
    let printed = amount_text c.args.scale (to_z w64 (of_z w64 c.args.amount)) in
    let cut : take len c.print_amount-len.new.out ≡ amount_text c.args.scale c.args.amount =
    ap (take len) c.print_amount-len.ensures.text ∙ take_at printed _ len (sym c.print_amount-len.ensures.len)
    ∙ ap (amount_text c.args.scale) amount in
    on_ok_weaker c.push_field.result (λ e. e ∙ ap (λ (field : List ℕ). c.args.out.now.items ++ 44 ∷ field) cut)
    c.push_field.ensures
