-- What is read, by the digits at the beginning of the text.
use Rattle.std.proofs.Common.{◌≡◌, ℕ, ◌+◌, ◌-◌, ◌*◌, ◌^◌, ◌<◌, ◌≤◌, ◌⊎◌, Bool, true, false, List, Option, Some, None, length, take, drop}
use Rattle.std.proofs.Common.{refl, sym, ap, subst, ◌∙◌, arith, ℤ, pos}
use Rattle.std.specs.Prelude.{nat_lt, nat_le}
use Rattle.std.specs.Option.{option_map}
use Rattle.std.proofs.lemmas.Bool.Decides.{nat_tests}
use Rattle.std.proofs.Math.Nat.{mul-le-mul, mul-le-mul_left, pow-le-pow_right}
use Rattle.std.proofs.lemmas.List.{length-drop, take_all}
use Rattle.std.proofs.lemmas.Bool.{lt-ltb, le-ltb}
use Rattle.aggregates.specs.Bounds.{IsFraction}
use Rattle.aggregates.specs.Numbers.{number, is_number, digit_prefix, after_digits, id_in, is_short, positive_fraction, fraction_tail}
use Rattle.aggregates.specs.Numbers.{magnitude_in, tail_in, within}
use Rattle.aggregates.proofs.Digits.{number-short, is_number-is, is_number-some, is_number-none, is_number-prefix, ten-pos}
use Rattle.aggregates.proofs.Digits.{after_digits-drop, digits_prefix-all, all_ascii_digits-prefix}
use Rattle.cube_defs.specs.declared.limits.TheConstants.{MAX_AMOUNT, MAX_SCALE}

pub is_le : (a b : ℕ) → a ≤ b → nat_le a b ≡ true
is_le a b h = grind (arith, nat_tests)

pub not_le : (a b : ℕ) → b < a → nat_le a b ≡ false
not_le a b h = grind (arith, nat_tests)

module _ (text : List ℕ) where
  -- no id, if a number's text is none
  id_in-by : (is_number text ≡ true → id_in text ≡ None) → id_in text ≡ None
  id_in-by h = go (is_number text) refl
    where
      go : (b : Bool) → is_number text ≡ b → id_in text ≡ None
      go false e = rw e refl
      go true e = h e

  pub id_in-large : 2 ^ 64 ≤ number (digit_prefix text) → id_in text ≡ None
  id_in-large h = id_in-by (λ e. let f = ap number (is_number-is text e) in
      rw e (rw (le-ltb (number text) (2 ^ 64) (omega (arith, f))) refl))

  pub id_in-none : (length (digit_prefix text) ≡ 0) ⊎ (length (digit_prefix text) < length text) → id_in text ≡ None
  id_in-none h = id_in-by (λ e. let f = ap length (is_number-is text e) in let g = (is_number-some text e).1 in
      absurd (omega (arith, f, g, h)))

  pub id_in-some : 0 < length (digit_prefix text) → length text ≤ length (digit_prefix text)
      → length (digit_prefix text) ≤ length text → number (digit_prefix text) < 2 ^ 64
      → id_in text ≡ Some (number (digit_prefix text))
  id_in-some h l m n =
      let f = digits_prefix-all text (omega arith) in
      let e : is_number text ≡ true = ap is_number (sym f) ∙ is_number-prefix text h in
      let g = ap number f in
      rw e (rw (lt-ltb (number text) (2 ^ 64) (omega (arith, g, n))) (ap (λ k. Some k) (sym g)))

  pub positive-large : 2 ^ 64 ≤ number (digit_prefix text) → positive_fraction text ≡ None
  positive-large h = go (nat_le (length (digit_prefix text)) 18) refl
    where
      short : length (digit_prefix text) ≤ 18 → ⊥
      short l = let s = number-short (digit_prefix text) 18 (all_ascii_digits-prefix text) l in omega (arith, s, h)

      go : (b : Bool) → nat_le (length (digit_prefix text)) 18 ≡ b → positive_fraction text ≡ None
      go true e = absurd (short (grind (arith, nat_tests)))
      go false e = go_on (is_number (digit_prefix text)) refl
        where
          go_on : (b : Bool) → is_number (digit_prefix text) ≡ b → positive_fraction text ≡ None
          go_on true f = rw f (rw e refl)
          go_on false f = rw f refl

  pub positive-some : 0 < length (digit_prefix text) → length (digit_prefix text) ≤ 18
      → positive_fraction text ≡ fraction_tail (number (digit_prefix text)) (drop (length (digit_prefix text)) text)
  positive-some h l =
      rw (is_number-prefix text h)
      (rw (is_le (length (digit_prefix text)) 18 l)
      (ap (fraction_tail (number (digit_prefix text))) (after_digits-drop text)))

  module _ (scale : ℕ) where
    pub magnitude-none : length (digit_prefix text) ≡ 0 → magnitude_in scale text ≡ None
    magnitude-none h = rw (is_number-none (digit_prefix text) h) refl

    pub magnitude-is : 0 < length (digit_prefix text)
        → magnitude_in scale text
        ≡ within (option_map (λ n. number (digit_prefix text) * 10 ^ scale + n)
        (tail_in scale (drop (length (digit_prefix text)) text)))
    magnitude-is h = rw (is_number-prefix text h)
        (ap (λ t. within (option_map (λ n. number (digit_prefix text) * 10 ^ scale + n) (tail_in scale t)))
        (after_digits-drop text))

    pub magnitude-large : MAX_AMOUNT < number (digit_prefix text) → magnitude_in scale text ≡ None
    magnitude-large h = go (is_number (digit_prefix text)) refl
      where
        units : (n : ℕ) → MAX_AMOUNT < number (digit_prefix text) * 10 ^ scale + n
        units n = let p = mul-le-mul_left (number (digit_prefix text)) (ten-pos scale) in omega (arith, p, h)

        large : (o : Option ℕ) → within (option_map (λ n. number (digit_prefix text) * 10 ^ scale + n) o) ≡ None
        large None = refl
        large (Some n) = rw (not_le (number (digit_prefix text) * 10 ^ scale + n) MAX_AMOUNT (units n)) refl

        go : (b : Bool) → is_number (digit_prefix text) ≡ b → magnitude_in scale text ≡ None
        go true e = rw e (large (tail_in scale (after_digits text)))
        go false e = rw e refl

-- what an answer that the text is no id says
pub id_in-not : (text : List ℕ) → number text < 2 ^ 64 → id_in text ≡ None → is_number text ≡ false
id_in-not text h e = go (is_number text) refl
  where
    go : (b : Bool) → is_number text ≡ b → is_number text ≡ false
    go false f = f
    go true f =
        let g : id_in text ≡ Some (number text) = rw f (rw (lt-ltb (number text) (2 ^ 64) h) refl) in
        cc

pub id_in-is : (text : List ℕ) (n : ℕ) → id_in text ≡ Some n → (is_number text ≡ true) × (number text ≡ n)
id_in-is text n e = go (is_number text) (nat_lt (number text) (2 ^ 64)) refl refl
  where
    go : (b d : Bool) → is_number text ≡ b → nat_lt (number text) (2 ^ 64) ≡ d → (is_number text ≡ true)
        × (number text ≡ n)
    go false d f g = let none : id_in text ≡ None = rw f refl in absurd (cc)
    go true false f g = let none : id_in text ≡ None = rw f (rw g refl) in absurd (cc)
    go true true f g = let some : id_in text ≡ Some (number text) = rw f (rw g refl) in (f, cc)

-- so many digits at most
module _ (most : ℕ) (text : List ℕ) where
  pub is_short-unread : most ≤ 18 → length text ≤ most → id_in text ≡ None → is_short most text ≡ false
  is_short-unread m l e = go (is_number text) refl
    where
      small : is_number text ≡ true → number text < 2 ^ 64
      small f = let p = number-short text 18 (is_number-some text f).0 (omega arith) in omega (arith, p)

      go : (b : Bool) → is_number text ≡ b → is_short most text ≡ false
      go false f = rw f refl
      go true f = rw (id_in-not text (small f) e) refl

pub number-read : (k : ℕ) (text : List ℕ) (n : ℕ) → length text ≤ k → id_in text ≡ Some n → n < 10 ^ k
number-read k text n l e =
    let f = id_in-is text n e in
    let p = number-short text k (is_number-some text f.0).0 l in
    omega (arith, f.1, p)

slice-rest : (text : List ℕ) (k : ℕ) → take (length text - k) (drop k text) ≡ drop k text
slice-rest text k = take_all (length text - k) (drop k text) (omega (arith, length-drop k text))

module _ (text : List ℕ) (k v : ℕ) (e : k ≡ length (digit_prefix text)) (f : v ≡ number (digit_prefix text)) where
  rest-is : drop (length (digit_prefix text)) text ≡ take (length text - k) (drop k text)
  rest-is = ap (λ j. drop j text) (sym e) ∙ sym (slice-rest text k)

  pub positive-tail : 0 < k → k ≤ 18 → positive_fraction text ≡ fraction_tail v (take (length text - k) (drop k text))
  positive-tail h l =
      positive-some text (omega (arith, e)) (omega (arith, e))
      ∙ ap (λ n. fraction_tail n (drop (length (digit_prefix text)) text)) (sym f)
      ∙ ap (fraction_tail v) rest-is

  pub positive-small : k ≤ 18 → v < 10 ^ 18
  positive-small l = let p = number-short (digit_prefix text) 18 (all_ascii_digits-prefix text) (omega (arith, e)) in
      omega (arith, p, f)

  pub magnitude-tail : (scale u : ℕ) (o : Option ℕ) → 0 < k → u ≡ 10 ^ scale
      → o ≡ tail_in scale (take (length text - k) (drop k text))
      → magnitude_in scale text ≡ within (option_map (λ n. v * u + n) o)
  magnitude-tail scale u o h g t =
      let r : tail_in scale (drop (length (digit_prefix text)) text) ≡ o = ap (tail_in scale) rest-is ∙ sym t in
      magnitude-is text scale (omega (arith, e))
      ∙ ap (λ x. within (option_map (λ n. number (digit_prefix text) * 10 ^ scale + n) x)) r
      ∙ ap (λ a. within (option_map (λ n. a * 10 ^ scale + n) o)) (sym f)
      ∙ ap (λ b. within (option_map (λ n. v * b + n) o)) (sym g)

pub within-large : (n : ℕ) → MAX_AMOUNT < n → within (Some n) ≡ None
within-large n h = rw (not_le n MAX_AMOUNT h) refl

pub within-is : (n : ℕ) → n ≤ MAX_AMOUNT → within (Some n) ≡ Some n
within-is n h = rw (is_le n MAX_AMOUNT h) refl

pub fraction-from : (y : ℤ) (n d : ℕ) → y ≡ pos n → 0 < d → d < 10 ^ 18 → n < 10 ^ 24 → IsFraction y d
fraction-from y n d e h l m =
    let P : ℤ → Type 0 = λ (z : ℤ). IsFraction z d in
    subst P (sym e) (record { positive = h; small = l; numerator = m })

pub numerator-small : (whole den value k : ℕ) → whole < 10 ^ 18 → k ≤ MAX_SCALE → den ≡ 10 ^ k → value < 10 ^ k
    → whole * den + value < 10 ^ 24
numerator-small whole den value k h l e v =
    let p : 10 ^ k ≤ 10 ^ MAX_SCALE = pow-le-pow_right (omega arith) l in
    let w : whole ≤ 999999999999999999 = omega arith in
    let q = mul-le-mul w p in
    let d = ap (λ n. whole * n) e in
    omega (arith, p, q, d)
