-- Fractions in lowest terms that have one value are one.
use mathlib.Core.HLevel.{is_prop→PathP}
use native.Mathlib.Bridge.{le_prop}
use Prim.Native.Nat.{◌∣◌}
use Rattle.std.proofs.Common.{◌≡◌, ℕ, zero, suc, ◌+◌, ◌*◌, ◌/◌, ◌%◌, ◌^◌, ◌<◌, ◌≤◌, ℤ, pos, negsuc, ◌*ℤ◌, ◌<ℤ◌, refl, sym, ap, subst, ◌∙◌}
use Rattle.std.proofs.Common.{arith, nat_abs}
use Rattle.std.specs.declared.cmp.Ordering.TheVariants.{Equal}
use Rattle.std.specs.Int.{IsGcd}
use Rattle.std.specs.Ordering.{int_cmp}
use Rattle.std.proofs.Math.Nat.{ℕ_set, dvd-mul_left, mul-one, mul-zero, mul_comm, mul-lt-mul_of_pos_left, mod-lt}
use Rattle.std.proofs.lemmas.Cmp.{by_ranked, int_ranked}
use Rattle.std.proofs.lemmas.Int.{ints}
use Rattle.std.proofs.lemmas.Map.Lookups.{exact_signed}
use Rattle.std.proofs.lemmas.Nat.{div-add-mod', mod-mul-add}
use Rattle.std.proofs.lemmas.Nat.Gcd.{IsGcd-from_mod, IsGcd-from_zero, dvd_antisymm}
use Rattle.cube_defs.specs.Rows.{gcd, gcd_within}
use Rattle.aggregates.specs.Order.{ratio_cmp}
use Rattle.aggregates.specs.declared.fraction.Ratio.{Ratio}
use Rattle.cube_laws.proofs.CallerLemmas.{nat_abs-neg, mono}

mod-times : (m a b : ℕ) → 0 < m → 0 < b → (m * a) % (m * b) ≡ m * (a % b)
mod-times m a b p q =
    let parts : a / b * b + a % b ≡ a = div-add-mod' a b in
    let whole : m * a ≡ a / b * (m * b) + m * (a % b) = ap (λ n. m * n) (sym parts) ∙ grind arith in
    ap (λ n. n % (m * b)) whole ∙ mod-mul-add (a / b) (m * b) (m * (a % b)) (mul-lt-mul_of_pos_left (mod-lt a q) p)

gcd-times : (m n a b : ℕ) → 0 < m → b < n → IsGcd (m * a) (m * b) (m * gcd_within n a b)
gcd-times m zero a b p h = absurd (omega arith)
gcd-times m (suc n) a zero p h = IsGcd-from_zero (m * a) (m * 0) (mul-zero m)
gcd-times m (suc n) a (suc b) p h =
    let less : a % suc b < suc b = mod-lt a (omega arith) in
    IsGcd-from_mod (m * a) (m * suc b) (m * gcd_within n (suc b) (a % suc b))
    (subst (λ r. IsGcd (m * suc b) r (m * gcd_within n (suc b) (a % suc b)))
    (sym (mod-times m a (suc b) p (omega arith))) (gcd-times m n (suc b) (a % suc b) p (omega (arith, less, h))))

-- what divides a product, and has no divisor with the one factor, divides the other
coprime_divides : (a b c : ℕ) → 0 < c → gcd a b ≡ 1 → b ∣ a * c → b ∣ c
coprime_divides a b c p one d =
    subst (λ n. b ∣ n) (ap (λ g. c * g) one ∙ mul-one c)
    ((gcd-times c (suc b) a b p (omega arith)).2 b (subst (λ n. b ∣ n) (mul_comm a c) d) (dvd-mul_left b c))

abs-times : (a : ℤ) (n : ℕ) → nat_abs (a *ℤ pos n) ≡ nat_abs a * n
abs-times (pos a) n = refl
abs-times (negsuc a) n = nat_abs-neg (suc a * n)

times_cancels : (a b : ℤ) (k : ℕ) → 0 < k → a *ℤ pos k ≡ b *ℤ pos k → a ≡ b
times_cancels a b k p e = by_ranked (a <ℤ b) (a ≡ b) (b <ℤ a) (int_cmp a b) (int_ranked a b (int_cmp a b) refl)
    (λ _ h. let r = mono a b k p h in absurd (omega (arith, ints, r, e)))
    (λ _ h. h)
    (λ _ h. let r = mono b a k p h in absurd (omega (arith, ints, r, e)))

module _ (x y : Ratio) (same : x.num *ℤ pos y.den ≡ y.num *ℤ pos x.den) where
  products : nat_abs x.num * y.den ≡ nat_abs y.num * x.den
  products = sym (abs-times x.num y.den) ∙ ap nat_abs same ∙ abs-times y.num x.den

  dens : x.den ≡ y.den
  dens = dvd_antisymm
      (coprime_divides (nat_abs x.num) x.den y.den y.lowest.positive x.lowest.lowest
      (subst (λ n. x.den ∣ n) (sym products) (dvd-mul_left x.den (nat_abs y.num))))
      (coprime_divides (nat_abs y.num) y.den x.den x.lowest.positive y.lowest.lowest
      (subst (λ n. y.den ∣ n) products (dvd-mul_left y.den (nat_abs x.num))))

  nums : x.num ≡ y.num
  nums = times_cancels x.num y.num x.den x.lowest.positive (ap (λ (n : ℕ). x.num *ℤ pos n) dens ∙ same)

pub same_ratio : (x y : Ratio) → x.num ≡ y.num → x.den ≡ y.den → x ≡ y
same_ratio a b p q = λ i. record {
  num = p i;
  den = q i;
  lowest = record {
    positive = is_prop→PathP (λ j. 0 < q j) (λ j. le_prop) a.lowest.positive b.lowest.positive i;
    small = is_prop→PathP (λ j. q j ≤ 10 ^ 12) (λ j. le_prop) a.lowest.small b.lowest.small i;
    lowest = is_prop→PathP (λ j. gcd (nat_abs (p j)) (q j) ≡ 1) (λ j. ℕ_set _ _) a.lowest.lowest b.lowest.lowest i;
  };
}

pub one_ratio : (x y : Ratio) → ratio_cmp x y ≡ Equal → x ≡ y
one_ratio x y e = let same = exact_signed _ _ e in same_ratio x y (nums x y same) (dens x y same)
