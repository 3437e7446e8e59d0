-- Texts of digits, and the digits at the beginning of a text.
use Rattle.std.proofs.Common.{◌≡◌, ℕ, suc, ◌+◌, ◌-◌, ◌*◌, ◌^◌, ◌<◌, ◌≤◌, Bool, true, false, List, [], ◌∷◌, length, drop, get_or, refl, ap}
use Rattle.std.proofs.Common.{◌∙◌, arith, rules}
use Rattle.std.specs.Char.{is_ascii_digit}
use Rattle.std.specs.Str.{all_ascii_digits}
use Rattle.std.proofs.lemmas.List.{drop_more}
use Rattle.std.proofs.lemmas.Str.Parse.{IsNumeralModel, numerals_by_fold, digits_value_short}
pub use Rattle.cube_laws.proofs.CallerLemmas.{ten-pos}
use Rattle.aggregates.specs.Numbers.{number_after, number, is_number, digit_prefix, after_digits}

pub own : IsNumeralModel (λ ds. all_ascii_digits ds ≡ true) number
own = numerals_by_fold _ (search rules) number_after (search rules)

pub number-short : (ds : List ℕ) (k : ℕ) → all_ascii_digits ds ≡ true → length ds ≤ k → number ds < 10 ^ k
number-short ds k p h = digits_value_short own ds k p h

pub number_after-le : (n : ℕ) (cs : List ℕ) → n ≤ number_after n cs
number_after-le n [] = omega arith
number_after-le n (c ∷ cs) = omega (arith, number_after-le (10 * n + (c - 48)) cs)

-- one digit more
pub digits_prefix-more : (text : List ℕ) (i : ℕ) → i < length text → is_ascii_digit (get_or text i 0) ≡ true
    → digit_prefix (drop i text) ≡ get_or text i 0 ∷ digit_prefix (drop (i + 1) text)
digits_prefix-more text i h d = rw (drop_more text i 0 h) (rw d refl)

pub number_after-more : (v n : ℕ) (text : List ℕ) (i : ℕ) → i < length text → is_ascii_digit (get_or text i 0) ≡ true
    → number_after v (digit_prefix (drop i text)) ≡ n → 10 * v + (get_or text i 0 - 48) ≤ n
number_after-more v n text i h d e =
    let f = ap (number_after v) (digits_prefix-more text i h d) in
    omega (arith, number_after-le (10 * v + (get_or text i 0 - 48)) (digit_prefix (drop (i + 1) text)), f, e)

pub length-digits_prefix : (text : List ℕ) → length (digit_prefix text) ≤ length text
length-digits_prefix [] = omega arith
length-digits_prefix (c ∷ cs) = go (length-digits_prefix cs) (is_ascii_digit c) refl
  where
    go : length (digit_prefix cs) ≤ length cs → (b : Bool) → is_ascii_digit c ≡ b
        → length (digit_prefix (c ∷ cs)) ≤ suc (length cs)
    go more true e = rw e (omega arith)
    go more false e = rw e (omega arith)

pub after_digits-drop : (text : List ℕ) → after_digits text ≡ drop (length (digit_prefix text)) text
after_digits-drop [] = refl
after_digits-drop (c ∷ cs) = go (after_digits-drop cs) (is_ascii_digit c) refl
  where
    go : after_digits cs ≡ drop (length (digit_prefix cs)) cs → (b : Bool) → is_ascii_digit c ≡ b
        → after_digits (c ∷ cs) ≡ drop (length (digit_prefix (c ∷ cs))) (c ∷ cs)
    go more true e = rw e more
    go more false e = rw e refl

pub all_ascii_digits-prefix : (text : List ℕ) → all_ascii_digits (digit_prefix text) ≡ true
all_ascii_digits-prefix [] = refl
all_ascii_digits-prefix (c ∷ cs) = go (all_ascii_digits-prefix cs) (is_ascii_digit c) refl
  where
    go : all_ascii_digits (digit_prefix cs) ≡ true → (b : Bool) → is_ascii_digit c ≡ b
        → all_ascii_digits (digit_prefix (c ∷ cs)) ≡ true
    go more true e = rw e (rw e more)
    go more false e = rw e refl

-- all are digits where no byte stands after those at the beginning
pub digits_prefix-all : (text : List ℕ) → length (digit_prefix text) ≡ length text → digit_prefix text ≡ text
digits_prefix-all [] = λ e. refl
digits_prefix-all (c ∷ cs) = go (digits_prefix-all cs) (is_ascii_digit c) refl
  where
    go : (length (digit_prefix cs) ≡ length cs → digit_prefix cs ≡ cs) → (b : Bool) → is_ascii_digit c ≡ b
        → length (digit_prefix (c ∷ cs)) ≡ suc (length cs) → digit_prefix (c ∷ cs) ≡ c ∷ cs
    go more true e = rw e (λ h. ap (λ ds. c ∷ ds) (more (omega (arith, h))))
    go more false e = rw e (λ h. absurd (omega (arith, h)))

pub all_ascii_digits-all : (text : List ℕ) → all_ascii_digits text ≡ true → digit_prefix text ≡ text
all_ascii_digits-all [] = λ e. refl
all_ascii_digits-all (c ∷ cs) = go (all_ascii_digits-all cs) (is_ascii_digit c) refl
  where
    go : (all_ascii_digits cs ≡ true → digit_prefix cs ≡ cs) → (b : Bool) → is_ascii_digit c ≡ b
        → all_ascii_digits (c ∷ cs) ≡ true → digit_prefix (c ∷ cs) ≡ c ∷ cs
    go more true e = rw e (λ h. ap (λ ds. c ∷ ds) (more h))
    go more false e = rw e (λ h. cc)

pub is_number-all : (text : List ℕ) → 0 < length text → is_number text ≡ all_ascii_digits text
is_number-all [] h = absurd (omega arith)
is_number-all (c ∷ cs) h = refl

pub is_number-none : (text : List ℕ) → length text ≡ 0 → is_number text ≡ false
is_number-none [] h = refl
is_number-none (c ∷ cs) h = absurd (omega arith)

pub is_number-prefix : (text : List ℕ) → 0 < length (digit_prefix text) → is_number (digit_prefix text) ≡ true
is_number-prefix text h = is_number-all (digit_prefix text) h ∙ all_ascii_digits-prefix text

pub is_number-is : (text : List ℕ) → is_number text ≡ true → digit_prefix text ≡ text
is_number-is [] e = refl
is_number-is (c ∷ cs) e = all_ascii_digits-all (c ∷ cs) e

pub is_number-some : (text : List ℕ) → is_number text ≡ true → (all_ascii_digits text ≡ true) × (0 < length text)
is_number-some [] e = absurd (cc)
is_number-some (c ∷ cs) e = (e, omega arith)
