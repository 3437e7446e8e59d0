-- Fractions in lowest terms are ratios.
use Rattle.std.proofs.Common.{◌≡◌, ℕ, ◌<◌, ◌≤◌, ◌/◌, ◌*◌, ◌^◌, zero, suc, arith, ℤ, pos, nat_abs, refl, sym, ap, subst, ◌∙◌, ◌*ℤ◌, ◌<ℤ◌}
use Rattle.std.specs.Cmp.{int_cmp_total}
use Rattle.std.specs.Ordering.{int_cmp}
use Rattle.std.proofs.lemmas.Cmp.{by_ranked, int_ranked, tied_itself}
use Rattle.std.proofs.lemmas.Nat.Gcd.{same_from_IsGcd}
use Rattle.std.proofs.Math.Nat.{div-le_self, mul-div_cancel'}
use Rattle.std.proofs.lemmas.Nat.{mul-le}
use Rattle.std.specs.Prelude.{int_div}
use Rattle.cube_defs.specs.Rows.{gcd, lowest_terms}
use Rattle.cube_laws.proofs.CallerLemmas.{gcd-is, lowest_terms-coprime, lowest_terms-positive, mono, less_is, more_is}
use Rattle.aggregates.specs.Bounds.{IsRatio}

pub gcd-positive : (a b : ℕ) → 0 < b → 0 < gcd a b
gcd-positive a b h = positive (gcd a b) (b / gcd a b) (mul-div_cancel' (gcd a b) (gcd-is a b).1)
  where
    positive : (g x : ℕ) → g * x ≡ b → 0 < g
    positive zero x e = omega arith
    positive (suc g) x e = omega arith

pub gcd-small : (a b : ℕ) → 0 < b → gcd a b ≤ b
gcd-small a b h = small (gcd a b) (b / gcd a b) (mul-div_cancel' (gcd a b) (gcd-is a b).1)
  where
    small : (g x : ℕ) → g * x ≡ b → g ≤ b
    small g zero e = omega arith
    small g (suc x) e = omega arith

pub lowest_terms-ratio : (a : ℤ) (b : ℕ) → 0 < b → b ≤ 10 ^ 12 → IsRatio (lowest_terms a b).num (lowest_terms a b).den
lowest_terms-ratio a b h small = record {
  positive = lowest_terms-positive a b h;
  small = smaller (gcd (nat_abs a) b);
  lowest = same_from_IsGcd (nat_abs (lowest_terms a b).num) (lowest_terms a b).den _ _ (gcd-is _ _)
      (lowest_terms-coprime a b h);
}
  where
    smaller : (g : ℕ) → b / g ≤ 10 ^ 12
    smaller g = omega (arith, div-le_self b g)

-- the same, where the parts are known by equations
pub ratio-from : (a x y : ℤ) (b g : ℕ) → 0 < b → b ≤ 10 ^ 12 → g ≡ gcd (nat_abs a) b → x ≡ int_div a (pos g) → y ≡ x
    → IsRatio y (b / g)
ratio-from a x y b g h small e f d =
    let P : ℕ → Type 0 = λ (k : ℕ). IsRatio (int_div a (pos k)) (b / k) in
    let Q : ℤ → Type 0 = λ (z : ℤ). IsRatio z (b / g) in
    subst Q (sym f ∙ sym d) (subst P (sym e) (lowest_terms-ratio a b h small))

-- fractions over one denominator are ordered as their numerators are
pub order-over : (a b : ℤ) (k : ℕ) → 0 < k → int_cmp a b ≡ int_cmp (a *ℤ pos k) (b *ℤ pos k)
order-over a b k p = by_ranked (a <ℤ b) (a ≡ b) (b <ℤ a) (int_cmp a b) (int_ranked a b (int_cmp a b) refl)
    (λ e h. e ∙ sym (less_is _ _ (mono a b k p h)))
    (λ e h. e ∙ sym (ap (λ (x : ℤ). int_cmp (x *ℤ pos k) (b *ℤ pos k)) h ∙ tied_itself int_cmp_total (b *ℤ pos k)))
    (λ e h. e ∙ sym (more_is _ _ (mono b a k p h)))

-- a product of small numbers is small
pub small-product : (a b m n k : ℕ) → a ≤ m → b ≤ n → m * n < k → a * b < k
small-product a b m n k h i small = omega (arith, mul-le a b m n h i, small)
