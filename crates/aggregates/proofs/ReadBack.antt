-- What was printed is read as itself.
use Rattle.std.proofs.Common.{◌≡◌, ℕ, zero, suc, ◌+◌, ◌-◌, ◌*◌, ◌/◌, ◌%◌, ◌^◌, ◌<◌, ◌≤◌, Bool, true, false, Some, List, [], ◌∷◌, ◌++◌}
use Rattle.std.proofs.Common.{length, drop, refl, sym, ap, ap₂, ◌∙◌, arith, ℤ, pos, negsuc, neg_ℤ, nat_abs, decimal}
use Rattle.std.specs.Prelude.{◌==◌, not}
use Rattle.std.specs.Char.{is_ascii_digit}
use Rattle.std.specs.List.{list_all}
use Rattle.std.specs.Option.{option_map}
use Rattle.std.specs.Str.{all_ascii_digits}
use Rattle.std.proofs.lemmas.Bool.Decides.{nat_tests}
use Rattle.std.proofs.lemmas.Fmt.{decimal_nonempty, digits_decimal, digits_value-decimal, length-decimal-le}
use Rattle.std.proofs.Math.Nat.{div-add-mod, div-le_self, mod-one, pow-succ'}
use Rattle.std.proofs.Math.Arith.{mod-mul}
use Rattle.std.proofs.lemmas.Bool.{lt-ltb}
use Rattle.cube_defs.specs.Rows.{Fraction}
use Rattle.aggregates.specs.Numbers.{amount_in, after_digits, digit_prefix, fraction_tail, fraction_written, id_in, is_number, is_short}
use Rattle.aggregates.specs.Numbers.{magnitude_in, number, places, positive_fraction, slash_tail, tail_in, within}
use Rattle.aggregates.specs.Texts.{amount_text, last_digits, places_text, ratio_text}
use Rattle.aggregates.proofs.Digits.{is_number-all, own, ten-pos}
use Rattle.aggregates.proofs.Reading.{is_le, within-is}
use Rattle.cube_defs.specs.declared.limits.TheConstants.{MAX_AMOUNT}

-- a text that begins with digits, which end with what follows
pub prefix-append : (ds rest : List ℕ) → all_ascii_digits ds ≡ true → digit_prefix rest ≡ []
    → digit_prefix (ds ++ rest) ≡ ds
prefix-append [] rest = λ d e. e
prefix-append (c ∷ cs) rest = go (prefix-append cs rest) (is_ascii_digit c) refl
  where
    go : (all_ascii_digits cs ≡ true → digit_prefix rest ≡ [] → digit_prefix (cs ++ rest) ≡ cs) → (b : Bool)
        → is_ascii_digit c ≡ b → all_ascii_digits (c ∷ cs) ≡ true → digit_prefix rest ≡ []
        → digit_prefix (c ∷ cs ++ rest) ≡ c ∷ cs
    go more true f = rw f (λ d e. ap (λ xs. c ∷ xs) (more d e))
    go more false f = rw f (λ d e. cc)

pub behind-append : (ds rest : List ℕ) → all_ascii_digits ds ≡ true → after_digits (ds ++ rest) ≡ after_digits rest
behind-append [] rest = λ d. refl
behind-append (c ∷ cs) rest = go (behind-append cs rest) (is_ascii_digit c) refl
  where
    go : (all_ascii_digits cs ≡ true → after_digits (cs ++ rest) ≡ after_digits rest) → (b : Bool)
        → is_ascii_digit c ≡ b → all_ascii_digits (c ∷ cs) ≡ true → after_digits (c ∷ cs ++ rest) ≡ after_digits rest
    go more true f = rw f (λ d. more d)
    go more false f = rw f (λ d. cc)

module _ (n : ℕ) (h : n < 2 ^ 64) where
  pub digits-decimal : all_ascii_digits (decimal n) ≡ true
  digits-decimal = digits_decimal own n h

  pub number-decimal : number (decimal n) ≡ n
  number-decimal = digits_value-decimal own n h

  pub is_number-decimal : is_number (decimal n) ≡ true
  is_number-decimal = is_number-all (decimal n) (decimal_nonempty n h) ∙ digits-decimal

  pub id_in-decimal : id_in (decimal n) ≡ Some n
  id_in-decimal =
      let e = number-decimal in
      rw is_number-decimal (rw (lt-ltb (number (decimal n)) (2 ^ 64) (omega (arith, e, h))) (ap (λ k. Some k) e))

digit-is : (d : ℕ) → d < 10 → is_ascii_digit (48 + d) ≡ true
digit-is d h = grind (arith, nat_tests)

pub digits-last_digits : (k n : ℕ) → all_ascii_digits (last_digits k n) ≡ true
digits-last_digits zero n = refl
digits-last_digits (suc k) n = rw (digit-is (n / 10 ^ k % 10) (omega arith)) (digits-last_digits k n)

pub places-last_digits : (k n : ℕ) → places k (last_digits k n) ≡ n % 10 ^ k
places-last_digits zero n = sym (mod-one n)
places-last_digits (suc k) n =
    let d : 48 + n / 10 ^ k % 10 - 48 ≡ n / 10 ^ k % 10 = omega arith in
    ap₂ (λ a b. a * 10 ^ k + b) d (places-last_digits k n)
    ∙ sym (ap (λ m. n % m) (pow-succ' 10 k) ∙ mod-mul n {m = 10} {c = 10 ^ k} (omega arith) (ten-pos k))

drop-last_digits : (k n : ℕ) → drop k (last_digits k n) ≡ []
drop-last_digits zero n = refl
drop-last_digits (suc k) n = drop-last_digits k n

-- the tail of a printed amount
tail-places : (scale n : ℕ) → tail_in scale (places_text scale n) ≡ Some (n % 10 ^ scale)
tail-places zero n = ap (λ k. Some k) (sym (mod-one n))
tail-places (suc scale) n =
    let digits : is_number (last_digits (suc scale) n) ≡ true = digits-last_digits (suc scale) n in
    let zeros : list_all (λ c. c == 48) (drop (suc scale) (last_digits (suc scale) n)) ≡ true
    = ap (list_all (λ c. c == 48)) (drop-last_digits (suc scale) n) in
    rw digits (rw zeros (ap (λ k. Some k) (places-last_digits (suc scale) n)))

places-end : (scale n : ℕ) → digit_prefix (places_text scale n) ≡ []
places-end zero n = refl
places-end (suc scale) n = refl

places-after : (scale n : ℕ) → after_digits (places_text scale n) ≡ places_text scale n
places-after zero n = refl
places-after (suc scale) n = refl

-- an amount without its sign
module _ (scale n : ℕ) (h : n ≤ MAX_AMOUNT) where
  abbrev whole : ℕ
  whole = n / 10 ^ scale

  abbrev text : List ℕ
  text = decimal whole ++ places_text scale n

  small : whole < 2 ^ 64
  small = let d = div-le_self n (10 ^ scale) in omega (arith, d)

  front : digit_prefix text ≡ decimal whole
  front = prefix-append (decimal whole) (places_text scale n) (digits-decimal whole small) (places-end scale n)

  behind : after_digits text ≡ places_text scale n
  behind = behind-append (decimal whole) (places_text scale n) (digits-decimal whole small) ∙ places-after scale n

  pub magnitude_in-text : magnitude_in scale text ≡ Some n
  magnitude_in-text =
      let digits : is_number (digit_prefix text) ≡ true = ap is_number front ∙ is_number-decimal whole small in
      let value : number (digit_prefix text) ≡ whole = ap number front ∙ number-decimal whole small in
      let tail : tail_in scale (after_digits text) ≡ Some (n % 10 ^ scale) = ap (tail_in scale) behind
      ∙ tail-places scale n in
      let sum : number (digit_prefix text) * 10 ^ scale + n % 10 ^ scale ≡ n =
      let e = ap (λ k. k * 10 ^ scale) value in let f = div-add-mod n (10 ^ scale) in omega (arith, e, f)
      in
      rw digits (rw tail (ap (λ k. within (Some k)) sum ∙ within-is n h))

  pub prefix-text : 0 < length (digit_prefix text)
  prefix-text = let e = ap length front in let f = decimal_nonempty whole small in omega (arith, e, f)

-- a text that begins with a digit has no sign
module _ (c : ℕ) (cs : List ℕ) (h : is_ascii_digit c ≡ true) where
  no_minus : (c == 45) ≡ false
  no_minus = grind (arith, nat_tests)

  no_plus : (c == 43) ≡ false
  no_plus = grind (arith, nat_tests)

digit-first : (c : ℕ) (cs : List ℕ) → 0 < length (digit_prefix (c ∷ cs)) → is_ascii_digit c ≡ true
digit-first c cs = go (is_ascii_digit c) refl
  where
    go : (b : Bool) → is_ascii_digit c ≡ b → 0 < length (digit_prefix (c ∷ cs)) → is_ascii_digit c ≡ true
    go true e = λ h. e
    go false e = rw e (λ h. absurd (omega (arith, h)))

amount_in-plain : (scale : ℕ) (text : List ℕ) → 0 < length (digit_prefix text)
    → amount_in scale text ≡ option_map (λ n. pos n) (magnitude_in scale text)
amount_in-plain scale [] h = absurd (omega arith)
amount_in-plain scale (c ∷ cs) h =
    let d = digit-first c cs h in
    rw (no_minus c cs d) (rw (no_plus c cs d) refl)

pub amount_in-text : (scale : ℕ) (amount : ℤ) → nat_abs amount ≤ MAX_AMOUNT
    → amount_in scale (amount_text scale amount) ≡ Some amount
amount_in-text scale (pos n) h = amount_in-plain scale (amount_text scale (pos n)) (prefix-text scale n h)
    ∙ ap (option_map (λ k. pos k)) (magnitude_in-text scale n h)
amount_in-text scale (negsuc n) h = ap (option_map (λ k. neg_ℤ (pos k))) (magnitude_in-text scale (suc n) h)

fraction_written-plain : (text : List ℕ) → 0 < length (digit_prefix text)
    → fraction_written text ≡ positive_fraction text
fraction_written-plain [] h = absurd (omega arith)
fraction_written-plain (c ∷ cs) h = rw (no_minus c cs (digit-first c cs h)) refl

short-decimal : (n : ℕ) → n < 10 ^ 18 → is_short 18 (decimal n) ≡ true
short-decimal n h = rw (is_number-decimal n (omega arith))
    (is_le (length (decimal n)) 18 (length-decimal-le 18 n (omega arith) h (omega arith)))

slash-decimal : (n d : ℕ) → 0 < d → d < 10 ^ 18 → slash_tail n (decimal d) ≡ Some (record { num = pos n; den = d })
slash-decimal n d h l =
    let e = number-decimal d (omega arith) in
    let some : not (number (decimal d) == 0) ≡ true = ap (λ k. not (k == 0)) e ∙ not_zero in
    rw (short-decimal d l) (rw some (ap (λ (k : ℕ). let f : Fraction = record { num = pos n; den = k } in Some f) e))
  where
    not_zero : not (d == 0) ≡ true
    not_zero = grind (arith, nat_tests)

module _ (n d : ℕ) (h : n < 10 ^ 18) (l : 0 < d) (m : d < 10 ^ 18) where
  abbrev quotient : List ℕ
  quotient = decimal n ++ 47 ∷ decimal d

  quotient-prefix : digit_prefix quotient ≡ decimal n
  quotient-prefix = prefix-append (decimal n) (47 ∷ decimal d) (digits-decimal n (omega arith)) refl

  pub quotient-first : 0 < length (digit_prefix quotient)
  quotient-first = let e = ap length quotient-prefix in let f = decimal_nonempty n (omega arith) in omega (arith, e, f)

  pub positive_fraction-text : positive_fraction quotient ≡ Some (record { num = pos n; den = d })
  positive_fraction-text =
      let short : is_short 18 (digit_prefix quotient) ≡ true = ap (is_short 18) quotient-prefix ∙ short-decimal n h in
      let value : number (digit_prefix quotient) ≡ n = ap number quotient-prefix ∙ number-decimal n (omega arith) in
      let rest : after_digits quotient ≡ 47 ∷ decimal d
      = behind-append (decimal n) (47 ∷ decimal d) (digits-decimal n (omega arith)) in
      rw short (ap₂ fraction_tail value rest ∙ slash-decimal n d l m)

pub fraction_written-text : (f : Fraction) → nat_abs f.num < 10 ^ 18 → 0 < f.den → f.den < 10 ^ 18
    → fraction_written (ratio_text f) ≡ Some f
fraction_written-text f h l m = by_sign f.num h
  where
    by_sign : (num : ℤ) → nat_abs num < 10 ^ 18 → (let g : Fraction = record { num = num; den = f.den } in
        fraction_written (ratio_text g) ≡ Some g)
    by_sign (pos n) s = fraction_written-plain (decimal n ++ 47 ∷ decimal f.den) (quotient-first n f.den s l m)
        ∙ positive_fraction-text n f.den s l m
    by_sign (negsuc n) s = ap (option_map (λ (g : Fraction). let k : Fraction
        = record { num = neg_ℤ g.num; den = g.den } in k)) (positive_fraction-text (suc n) f.den s l m)
