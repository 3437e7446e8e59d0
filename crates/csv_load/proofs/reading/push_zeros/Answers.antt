use Rattle.std.proofs.Common.{◌≡◌, ◌∙◌, ◌+◌, ◌++◌, ◌∷◌, [], length, List, ℤ, pos, ap, arith, append_assoc, sym, refl}
use Rattle.std.proofs.lemmas.List.{append-nil, length_push}
use Rattle.csv_load.proofs.reading.push_zeros.Goals as goal

pub zeros-init : goal.zeros-init
zeros-init c = ([], refl, sym (append-nil c.args.amounts.now.items))

pub zeros-preserved : goal.zeros-preserved
zeros-preserved c =
    let before = c.zeros.invariant in
    let more : length (before.0 ++ pos 0 ∷ []) ≡ c.zeros.counter + 1 = length_push before.0 (pos 0)
    ∙ ap (λ n. n + 1) before.1 in
    let pushed : c.push.new.self.items ≡ c.args.amounts.now.items ++ (before.0 ++ pos 0 ∷ [])
    = c.in_ok-push.ensures.items ∙ ap (λ (xs : List ℤ). xs ++ pos 0 ∷ []) before.2
    ∙ append_assoc c.args.amounts.now.items before.0 (pos 0 ∷ []) in
    (before.0 ++ pos 0 ∷ [], more, pushed)

pub returns : goal.returns
returns c =
    let zeros = c.zeros.invariant in
    (zeros.0, omega (arith, zeros.1), zeros.2)
