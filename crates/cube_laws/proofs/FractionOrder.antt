-- The order of fractions by cross products is total where the denominators are positive.
use Rattle.std.proofs.Common.{◌≡◌, ℕ, ◌+◌, ◌*◌, ◌<◌, refl, sym, ap, subst, ◌∙◌, arith, ℤ, pos, ◌*ℤ◌, ◌<ℤ◌}
use Rattle.std.specs.declared.cmp.Ordering.{Ordering}
use Rattle.std.specs.declared.cmp.Ordering.TheVariants.{Less, Greater}
use Rattle.std.specs.Ordering.{int_cmp, ordering_reverse}
use Rattle.std.specs.Cmp.{IsTotalOrder, int_cmp_total, back_total}
use Rattle.std.proofs.lemmas.Int.{ints}
use Rattle.std.proofs.lemmas.Cmp.{int_ranked, by_ranked, tied_itself}
use Rattle.std.proofs.Math.Nat.{mul-lt-mul_of_pos_right, mul_comm}
use borrow.Author.Differences.{up, down, same_in, product_is}
use Rattle.cube_defs.specs.Rows.{Fraction}
use Rattle.cube_defs.specs.Answers.{fraction_cmp}

int_mul_assoc : (a b c : ℤ) → (a *ℤ b) *ℤ c ≡ a *ℤ (b *ℤ c)
int_mul_assoc a b c =
    let ab = product_is a b in
    let bc = product_is b c in
    let by = λ (k : ℕ) (m n : ℕ) (e : m ≡ n). ap (λ x. x * k) e in
    let left = product_is (a *ℤ b) c in
    let right = product_is a (b *ℤ c) in
    let ups : up ((a *ℤ b) *ℤ c) ≡ up (a *ℤ (b *ℤ c)) =
    omega (arith, by (up c) _ _ ab.0, by (down c) _ _ ab.1, by (up a) _ _ bc.0, by (down a) _ _ bc.1) in
    let downs : down ((a *ℤ b) *ℤ c) ≡ down (a *ℤ (b *ℤ c)) =
    omega (arith, by (down c) _ _ ab.0, by (up c) _ _ ab.1, by (down a) _ _ bc.0, by (up a) _ _ bc.1) in
    same_in _ _ (λ i. ups i + sym downs i)

pub swap : (a : ℤ) (m n : ℕ) → (a *ℤ pos m) *ℤ pos n ≡ (a *ℤ pos n) *ℤ pos m
swap a m n = int_mul_assoc a (pos m) (pos n) ∙ ap (λ (k : ℕ). a *ℤ pos k) (mul_comm m n)
    ∙ sym (int_mul_assoc a (pos n) (pos m))

pub mono : (a b : ℤ) (k : ℕ) → 0 < k → a <ℤ b → (a *ℤ pos k) <ℤ (b *ℤ pos k)
mono a b k p q = omega (
  arith,
  ints,
  product_is a (pos k),
  product_is b (pos k),
  mul-lt-mul_of_pos_right {m = up a + down b} {n = up b + down a} {k = k} (omega (arith, ints)) p,
)

pub less_is : (a b : ℤ) → a <ℤ b → int_cmp a b ≡ Less
less_is a b h = grind (arith, ints)

pub more_is : (a b : ℤ) → b <ℤ a → int_cmp a b ≡ Greater
more_is a b h = grind (arith, ints)

-- both sides times one positive number
scale : (a b : ℤ) (k : ℕ) → 0 < k → int_cmp (a *ℤ pos k) (b *ℤ pos k) ≡ int_cmp a b
scale a b k p = by_ranked (a <ℤ b) (a ≡ b) (b <ℤ a) (int_cmp a b) (int_ranked a b (int_cmp a b) refl)
    (λ e h. less_is _ _ (mono a b k p h) ∙ sym e)
    (λ e h. ap (λ (x : ℤ). int_cmp (x *ℤ pos k) (b *ℤ pos k)) h ∙ tied_itself int_cmp_total (b *ℤ pos k) ∙ sym e)
    (λ e h. more_is _ _ (mono b a k p h) ∙ sym e)

module _ {K : Type 0} (value : K → Fraction) (positive : (x : K) → 0 < (value x).den) where
  abbrev times : K → K → K → ℤ
  times x y z = ((value x).num *ℤ pos (value y).den) *ℤ pos (value z).den

  -- the answer at x and y, over any third denominator
  over : (x y z : K) → fraction_cmp (value x) (value y) ≡ int_cmp (times x y z) (times y x z)
  over x y z = sym (scale ((value x).num *ℤ pos (value y).den) ((value y).num *ℤ pos (value x).den)
      (value z).den (positive z))

  turn : (x y z : K) → times x y z ≡ times x z y
  turn x y z = swap (value x).num (value y).den (value z).den

  pub value_total : IsTotalOrder (λ x y. fraction_cmp (value x) (value y))
  value_total = record {
    antisymm = λ x y. int_cmp_total.antisymm ((value x).num *ℤ pos (value y).den) ((value y).num *ℤ pos (value x).den);
    trans = λ x y z p q. over x z y ∙ int_cmp_total.trans (times x z y) (times y z x) (times z x y)
        (ap (λ (a : ℤ). int_cmp a (times y z x)) (turn x z y) ∙ ap (int_cmp (times x y z)) (turn y z x)
        ∙ sym (over x y z) ∙ p)
        (ap (int_cmp (times y z x)) (turn z x y) ∙ sym (over y z x) ∙ q);
    congr = λ x y z p. over x z y ∙ int_cmp_total.congr (times x z y) (times y z x) (times z x y)
        (ap (λ (a : ℤ). int_cmp a (times y z x)) (turn x z y) ∙ ap (int_cmp (times x y z)) (turn y z x)
        ∙ sym (over x y z) ∙ p)
        ∙ ap (int_cmp (times y z x)) (turn z x y) ∙ sym (over y z x);
  }

-- the greater first
pub falling_total : {K : Type 0} {R : K → K → Ordering} → IsTotalOrder R
    → IsTotalOrder (λ x y. ordering_reverse (R x y))
falling_total total = subst IsTotalOrder (λ i x y. total.antisymm y x i) (back_total total)
