-- The digits after a point are a number over a power of ten.
use Rattle.std.proofs.Common.{◌≡◌, ℕ, zero, suc, ◌+◌, ◌-◌, ◌*◌, ◌^◌, Bool, true, false, List, [], ◌∷◌, length, drop, refl, ap, arith}
use Rattle.std.specs.Prelude.{◌==◌}
use Rattle.std.specs.List.{list_all}
use Rattle.std.proofs.lemmas.Bool.Decides.{nat_tests}
use Rattle.std.proofs.Math.Nat.{pow-succ'}
use Rattle.aggregates.specs.Numbers.{number, number_after, places}

-- digits after those of n
number_after-is : (n : ℕ) (cs : List ℕ) → number_after n cs ≡ n * 10 ^ length cs + number cs
number_after-is n [] = omega arith
number_after-is n (c ∷ cs) =
    let e = number_after-is (10 * n + (c - 48)) cs in
    let f = number_after-is (10 * 0 + (c - 48)) cs in
    let q = ap (λ k. n * k) (pow-succ' 10 (length cs)) in
    omega (arith, e, f, q)

number-more : (c : ℕ) (cs : List ℕ) → number (c ∷ cs) ≡ (c - 48) * 10 ^ length cs + number cs
number-more c cs = let e = number_after-is (10 * 0 + (c - 48)) cs in omega (arith, e)

zeros-none : (cs : List ℕ) → list_all (λ c. c == 48) cs ≡ true → number cs ≡ 0
zeros-none [] = λ e. refl
zeros-none (c ∷ cs) = go (zeros-none cs) (c == 48) refl
  where
    go : (list_all (λ c. c == 48) cs ≡ true → number cs ≡ 0) → (b : Bool) → (c == 48) ≡ b
        → list_all (λ c. c == 48) (c ∷ cs) ≡ true → number (c ∷ cs) ≡ 0
    go more true f =
        let z : c ≡ 48 = grind (arith, nat_tests) in
        let p = ap (λ k. (k - 48) * 10 ^ length cs) z in
        rw f (λ e. omega (arith, number-more c cs, p, more e))
    go more false f = rw f (λ e. cc)

pub places-number : (scale : ℕ) (cs : List ℕ) → list_all (λ c. c == 48) (drop scale cs) ≡ true
    → places scale cs * 10 ^ length cs ≡ number cs * 10 ^ scale
places-number zero cs e = omega (arith, zeros-none cs e)
places-number (suc scale) [] e = omega arith
places-number (suc scale) (c ∷ cs) e =
    let a = ap (λ k. ((c - 48) * 10 ^ scale + places scale cs) * k) (pow-succ' 10 (length cs)) in
    let b = ap (λ k. number (c ∷ cs) * k) (pow-succ' 10 scale) in
    let d = ap (λ k. k * (10 * 10 ^ scale)) (number-more c cs) in
    let more = places-number scale cs e in
    omega (arith, a, b, d, more)
