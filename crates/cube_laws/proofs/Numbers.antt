-- Numbers in order.
use Rattle.std.proofs.Common.{◌≡◌, ◌⊎◌, ℕ, zero, suc, ◌+◌, ◌<◌, ◌≤◌, List, [], ◌∷◌, length, nat_cmp, inl, inr, ap, ◌∙◌, arith, ◌*◌, ◌^◌}
use Rattle.std.proofs.Common.{◌≢◌, refl, Bool, filter, cond, ◌++◌, sym}
use Rattle.std.specs.List.Sorted.{IsStrictlySortedBy}
use Rattle.std.specs.Cmp.{IsTotalOrder, nat_cmp_total, nat_cmp_is}
use Rattle.std.specs.FinMap.{IsAntisymmetric, nat_cmp-IsAntisymmetric}
use Rattle.std.specs.List.{AllByRecursion, range_with_len}
use Rattle.std.specs.declared.cmp.Ordering.TheVariants.{Less, Equal, Greater}
use Rattle.std.proofs.Math.Nat.{pow-suc, pow-zero}
use Rattle.std.proofs.lemmas.List.{map-id}
use Rattle.std.proofs.lemmas.List.FromFn.{filter_of_map_range_with_len_more}
use Rattle.cube_laws.proofs.Lists.{all_map}

pub nat_total : IsTotalOrder nat_cmp
nat_total = nat_cmp_total

pub nat_anti : IsAntisymmetric nat_cmp
nat_anti = nat_cmp-IsAntisymmetric

pub three_ways : (x y : ℕ) → (x < y) ⊎ ((x ≡ y) ⊎ (y < x))
three_ways zero zero = inr (inl (omega arith))
three_ways zero (suc y) = inl (omega arith)
three_ways (suc x) zero = inr (inr (omega arith))
three_ways (suc x) (suc y)
    = elim (three_ways x y) [
      | inl a ↦ inl (omega arith)
      | inr b ↦ elim b [ inl e ↦ inr (inl (ap suc e)) | inr c ↦ inr (inr (omega arith)) ]
    ]

pub less_below : (x y : ℕ) → nat_cmp x y ≡ Less → x < y
less_below x y e = elim (three_ways x y) [
  | inl a ↦ a
  | inr b ↦ elim b [
    | inl s ↦ absurd (let q : Equal ≡ nat_cmp x y = nat_cmp_is x y Equal s in let r : Equal ≡ Less
        = q ∙ e in cc)
    | inr g ↦ absurd (let q : Greater ≡ nat_cmp x y = nat_cmp_is x y Greater g in
        let r : Greater ≡ Less = q ∙ e in cc)
  ]
]

pub greater_above : (x y : ℕ) → nat_cmp x y ≡ Greater → y < x
greater_above x y e = elim (three_ways x y) [
  | inl a ↦ absurd (let q : Less ≡ nat_cmp x y = nat_cmp_is x y Less a in let r : Less ≡ Greater = q ∙ e in cc)
  | inr b ↦ elim b [
    | inl s ↦ absurd (let q : Equal ≡ nat_cmp x y = nat_cmp_is x y Equal s in let r : Equal ≡ Greater
        = q ∙ e in cc)
    | inr g ↦ g
  ]
]

-- numbers from a up to n that rise are at most n - a
rising : (a n : ℕ) (xs : List ℕ) → a ≤ n → IsStrictlySortedBy nat_cmp xs → AllByRecursion (λ x. a ≤ x) xs
    → AllByRecursion (λ x. x < n) xs → length xs + a ≤ n
unfolding IsStrictlySortedBy
rising a n [] l r low high = omega arith
rising a n (x ∷ xs) l r low high =
    let s : x < n = high.0 in
    let t : a ≤ x = low.0 in
    let more : length xs + suc x ≤ n
    = rising (suc x) n xs (omega arith) r.1 (all_map (λ y. nat_cmp x y ≡ Less) (λ y. suc x ≤ y) xs (λ y e. let h
    = less_below x y e in omega arith) r.0) high.1 in
    omega arith

pub few_rise : (n : ℕ) (xs : List ℕ) → IsStrictlySortedBy nat_cmp xs → AllByRecursion (λ x. x < n) xs → length xs ≤ n
unfolding IsStrictlySortedBy
few_rise n xs r high = let h : length xs + 0 ≤ n
    = rising 0 n xs (omega arith) r (all_map (λ x. x < n) (λ x. 0 ≤ x) xs (λ x l. omega arith) high) high in omega arith

pub times_mono : (d a b : ℕ) → a ≤ b → d * a ≤ d * b
times_mono zero a b h = omega arith
times_mono (suc d) a b h = let m = times_mono d a b h in omega arith

pub ten-pos : (k : ℕ) → 0 < 10 ^ k
ten-pos zero = omega arith
ten-pos (suc k) = omega (arith, pow-suc 10 k, ten-pos k)

pub square : (m : ℕ) → m ^ 2 ≡ m * m
square m = pow-suc m 1 ∙ ap (λ k. k * m) (pow-suc m 0 ∙ ap (λ k. k * m) (pow-zero m) ∙ one m)
  where
    one : (m : ℕ) → 1 * m ≡ m
    one m = omega arith

pub nat_or_not : (i j : ℕ) → (i ≡ j) ⊎ (i ≢ j)
nat_or_not zero zero = inl refl
nat_or_not zero (suc j) = inr (λ e. omega arith)
nat_or_not (suc i) zero = inr (λ e. omega arith)
nat_or_not (suc i) (suc j) = elim (nat_or_not i j) [ inl e ↦ inl (ap suc e) | inr n ↦ inr (λ e. n (omega arith)) ]

pub filter_range_more : (p : ℕ → Bool) (n : ℕ) → filter p (range_with_len 0 (n + 1)) ≡ filter p (range_with_len 0 n)
    ++ cond (p n) (n ∷ []) []
filter_range_more p n =
    ap (filter p) (sym (map-id (range_with_len 0 (n + 1))))
    ∙ filter_of_map_range_with_len_more p (λ k. k) 0 n n (omega arith)
    ∙ ap (λ l. filter p l ++ cond (p n) (n ∷ []) []) (map-id (range_with_len 0 n))
