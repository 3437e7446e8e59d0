-- The order of fractions, without rounding.
use Rattle.std.proofs.Common.{◌≡◌, ℕ, ◌+◌, ◌*◌, ◌<◌, ℤ, pos, ◌*ℤ◌, ◌<ℤ◌, true, refl, sym, ap, ◌∙◌, arith}
use Rattle.std.specs.Int.Signed.{◌≤ℤ◌}
use Rattle.std.specs.Ordering.{int_cmp, is_ge, is_le}
use Rattle.std.proofs.Math.Nat.{mul-le-mul_right, mul-pos}
use Rattle.std.proofs.lemmas.Cmp.{by_ranked, int_ranked}
use Rattle.std.proofs.lemmas.Int.{ints}
use borrow.Author.Differences.{up, down, product_is}
use Rattle.cube_defs.specs.Rows.{Fraction, lowest_terms}
use Rattle.cube_defs.specs.Answers.{fraction_cmp}
use Rattle.cube_laws.proofs.CallerLemmas.{lowest_terms-value, mul-mul, swap, mono}

pub times_le : (a b : ℤ) (k : ℕ) → a ≤ℤ b → (a *ℤ pos k) ≤ℤ (b *ℤ pos k)
times_le a b k q = omega (
  arith,
  ints,
  product_is a (pos k),
  product_is b (pos k),
  mul-le-mul_right {m = up a + down b} {n = up b + down a} k (omega (arith, ints)),
)

cancels : (a b : ℤ) (k : ℕ) → 0 < k → (a *ℤ pos k) ≤ℤ (b *ℤ pos k) → a ≤ℤ b
cancels a b k p h = by_ranked (a <ℤ b) (a ≡ b) (b <ℤ a) (int_cmp a b) (int_ranked a b (int_cmp a b) refl)
    (λ _ l. omega (arith, ints, l))
    (λ _ e. omega (arith, ints, e))
    (λ _ l. let r = mono b a k p l in absurd (omega (arith, ints, r, h)))

-- the factors in another order
regroup : (z : ℤ) (a b c d : ℕ) → a * b ≡ c * d → (z *ℤ pos a) *ℤ pos b ≡ (z *ℤ pos c) *ℤ pos d
regroup z a b c d e = mul-mul z a b ∙ ap (λ (m : ℕ). z *ℤ pos m) e ∙ sym (mul-mul z c d)

ge_le : (a b : ℤ) → is_ge (int_cmp a b) ≡ true → b ≤ℤ a
ge_le a b h = by_ranked (a <ℤ b) (a ≡ b) (b <ℤ a) (int_cmp a b) (int_ranked a b (int_cmp a b) refl)
    (λ o l. let bad = sym (ap is_ge o) ∙ h in cc)
    (λ o e. omega (arith, ints, e))
    (λ o l. omega (arith, ints, l))

le_ge : (a b : ℤ) → b ≤ℤ a → is_ge (int_cmp a b) ≡ true
le_ge a b h = by_ranked (a <ℤ b) (a ≡ b) (b <ℤ a) (int_cmp a b) (int_ranked a b (int_cmp a b) refl)
    (λ o l. absurd (omega (arith, ints, l, h)))
    (λ o e. ap is_ge o)
    (λ o l. ap is_ge o)

le_le : (a b : ℤ) → is_le (int_cmp a b) ≡ true → a ≤ℤ b
le_le a b h = by_ranked (a <ℤ b) (a ≡ b) (b <ℤ a) (int_cmp a b) (int_ranked a b (int_cmp a b) refl)
    (λ o l. omega (arith, ints, l))
    (λ o e. omega (arith, ints, e))
    (λ o l. let bad = sym (ap is_le o) ∙ h in cc)

le_from : (a b : ℤ) → a ≤ℤ b → is_le (int_cmp a b) ≡ true
le_from a b h = by_ranked (a <ℤ b) (a ≡ b) (b <ℤ a) (int_cmp a b) (int_ranked a b (int_cmp a b) refl)
    (λ o l. ap is_le o)
    (λ o e. ap is_le o)
    (λ o l. absurd (omega (arith, ints, l, h)))

-- the one fraction is at most the other
pub record IsAtMost (u v : Fraction) : Type 0 where
  pub cross : (u.num *ℤ pos v.den) ≤ℤ (v.num *ℤ pos u.den)

at_most-trans : (x y z : Fraction) → 0 < y.den → IsAtMost x y → IsAtMost y z → IsAtMost x z
at_most-trans x y z p h k =
    let a = times_le (x.num *ℤ pos y.den) (y.num *ℤ pos x.den) z.den h.cross in
    let b = times_le (y.num *ℤ pos z.den) (z.num *ℤ pos y.den) x.den k.cross in
    let u : (x.num *ℤ pos z.den) *ℤ pos y.den ≡ (x.num *ℤ pos y.den) *ℤ pos z.den = swap x.num z.den y.den in
    let v : (y.num *ℤ pos x.den) *ℤ pos z.den ≡ (y.num *ℤ pos z.den) *ℤ pos x.den = swap y.num x.den z.den in
    let w : (z.num *ℤ pos y.den) *ℤ pos x.den ≡ (z.num *ℤ pos x.den) *ℤ pos y.den = swap z.num y.den x.den in
    record { cross = cancels (x.num *ℤ pos z.den) (z.num *ℤ pos x.den) y.den p (omega (arith, ints, a, b, u, v, w)) }

pub ge_rises : (u v f : Fraction) → 0 < u.den → IsAtMost u v → is_ge (fraction_cmp u f) ≡ true
    → is_ge (fraction_cmp v f) ≡ true
ge_rises u v f p h g = le_ge _ _ (at_most-trans f u v p (record { cross = ge_le _ _ g }) h).cross

pub le_falls : (u v f : Fraction) → 0 < u.den → IsAtMost v u → is_le (fraction_cmp u f) ≡ true
    → is_le (fraction_cmp v f) ≡ true
le_falls u v f p h g = le_from _ _ (at_most-trans v u f p h (record { cross = le_le _ _ g })).cross

-- in lowest terms as before
-- fractions of the values x / c and y / d
pub at_most_of : (u v : Fraction) (x y : ℤ) (c d : ℕ) → 0 < c → 0 < d → u.num *ℤ pos c ≡ x *ℤ pos u.den
    → v.num *ℤ pos d ≡ y *ℤ pos v.den → (x *ℤ pos d) ≤ℤ (y *ℤ pos c) → IsAtMost u v
at_most_of u v x y c d p q e f h =
    let a = times_le (x *ℤ pos d) (y *ℤ pos c) (u.den * v.den) h in
    let m : (u.num *ℤ pos v.den) *ℤ pos (c * d) ≡ (u.num *ℤ pos c) *ℤ pos (v.den * d)
    = regroup u.num v.den (c * d) c (v.den * d) (grind arith) in
    let n : (u.num *ℤ pos c) *ℤ pos (v.den * d) ≡ (x *ℤ pos u.den) *ℤ pos (v.den * d)
    = ap (λ (z : ℤ). z *ℤ pos (v.den * d)) e in
    let o : (x *ℤ pos u.den) *ℤ pos (v.den * d) ≡ (x *ℤ pos d) *ℤ pos (u.den * v.den)
    = regroup x u.den (v.den * d) d (u.den * v.den) (grind arith) in
    let r : (v.num *ℤ pos u.den) *ℤ pos (c * d) ≡ (v.num *ℤ pos d) *ℤ pos (u.den * c)
    = regroup v.num u.den (c * d) d (u.den * c) (grind arith) in
    let s : (v.num *ℤ pos d) *ℤ pos (u.den * c) ≡ (y *ℤ pos v.den) *ℤ pos (u.den * c)
    = ap (λ (z : ℤ). z *ℤ pos (u.den * c)) f in
    let t : (y *ℤ pos v.den) *ℤ pos (u.den * c) ≡ (y *ℤ pos c) *ℤ pos (u.den * v.den)
    = regroup y v.den (u.den * c) c (u.den * v.den) (grind arith) in
    record {
      cross = cancels (u.num *ℤ pos v.den) (v.num *ℤ pos u.den) (c * d) (mul-pos p q)
          (omega (arith, ints, a, m, n, o, r, s, t));
    }

pub lowest_at_most : (x y : ℤ) (c d : ℕ) → 0 < c → 0 < d → (x *ℤ pos d) ≤ℤ (y *ℤ pos c)
    → IsAtMost (lowest_terms x c) (lowest_terms y d)
lowest_at_most x y c d p q h
    = at_most_of (lowest_terms x c) (lowest_terms y d) x y c d p q (lowest_terms-value x c p)
    (lowest_terms-value y d q) h
