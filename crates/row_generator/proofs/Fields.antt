-- The fields of the generated records, as the loader reads them.
use Rattle.std.proofs.Common.{◌≡◌, ◌∙◌, ℕ, zero, suc, ◌+◌, ◌-◌, ◌%◌, ◌/◌, ◌^◌, ◌<◌, ◌≤◌, List, [], ◌∷◌, ◌++◌, length, refl}
use Rattle.std.proofs.Common.{arith, rules, true, ℤ, pos, negsuc, nat_abs, decimal}
use Rattle.std.specs.Char.{is_ascii_digit}
use Rattle.std.specs.List.{list_all}
use Rattle.std.specs.Str.{all_ascii_digits, is_utf8}
use Rattle.std.proofs.lemmas.Bool.{and_from, and_parts, le-leb}
use Rattle.std.proofs.lemmas.Bool.Decides.{nat_tests}
use Rattle.std.proofs.lemmas.Int.{ints}
use Rattle.std.proofs.lemmas.Fmt.{IsAscii-decimal, digits_decimal, length-decimal-le}
use Rattle.std.proofs.lemmas.List.Folds.{list_all-append}
use Rattle.std.proofs.lemmas.Str.Parse.{IsNumeralModel, numerals_by_fold}
use Rattle.std.proofs.lemmas.Str.{IsUtf8-from_ascii, is_utf8-from_IsUtf8}
use Rattle.std.proofs.lemmas.Str.Ascii.{IsAscii-cons}
use Rattle.std.proofs.Math.Nat.{div-le_self}
use Rattle.aggregates.specs.Numbers.{number, number_after}
use Rattle.aggregates.specs.Texts.{amount_text, last_digits, places_text, sign_text}
use Rattle.cube_defs.specs.declared.limits.TheConstants.{MAX_AMOUNT, MAX_TEXT}
use Rattle.csv_load.specs.Files.{is_short}
use Rattle.text_lines.proofs.CallerLemmas.{is_bare}
use Rattle.row_generator.specs.Generator.{after_draw, amount_of, drawn_value, number_drawn}

digit-bare : (b : ℕ) → is_ascii_digit b ≡ true → is_bare b ≡ true
digit-bare b h = grind (arith, nat_tests)

digits-bare : (text : List ℕ) → all_ascii_digits text ≡ true → list_all is_bare text ≡ true
digits-bare [] h = refl
digits-bare (b ∷ bs) h =
    let p = and_parts (is_ascii_digit b) (all_ascii_digits bs) h in
    and_from (is_bare b) (list_all is_bare bs) (digit-bare b p.0) (digits-bare bs p.1)

numerals : IsNumeralModel (λ ds. all_ascii_digits ds ≡ true) number
numerals = numerals_by_fold _ (search rules) number_after (search rules)

digit-is : (d : ℕ) → d < 10 → is_ascii_digit (48 + d) ≡ true
digit-is d h = grind (arith, nat_tests)

last-digits : (k n : ℕ) → all_ascii_digits (last_digits k n) ≡ true
last-digits zero n = refl
last-digits (suc k) n = rw (digit-is (n / 10 ^ k % 10) (omega arith)) (last-digits k n)

pub decimal-bare : (n : ℕ) → n < 2 ^ 64 → list_all is_bare (decimal n) ≡ true
decimal-bare n h = digits-bare (decimal n) (digits_decimal numerals n h)

-- ---- amounts

amount-size : (id : ℕ) → nat_abs (amount_of id) ≤ 500
unfolding amount_of
amount-size id = omega (arith, ints)

pub amount-small : (id : ℕ) → nat_abs (amount_of id) ≤ MAX_AMOUNT
amount-small id = omega (arith, amount-size id)

sign-bare : (z : ℤ) → list_all is_bare (sign_text z) ≡ true
sign-bare (pos n) = refl
sign-bare (negsuc n) = refl

both-bare : (xs ys : List ℕ) → list_all is_bare xs ≡ true → list_all is_bare ys ≡ true
    → list_all is_bare (xs ++ ys) ≡ true
both-bare xs ys h k = list_all-append is_bare xs ys ∙ and_from (list_all is_bare xs) (list_all is_bare ys) h k

pub amount-bare : (z : ℤ) → nat_abs z ≤ MAX_AMOUNT → list_all is_bare (amount_text 2 z) ≡ true
amount-bare z h =
    let whole = div-le_self (nat_abs z) (10 ^ 2) in
    both-bare (sign_text z ++ decimal (nat_abs z / 10 ^ 2)) (places_text 2 (nat_abs z))
    (both-bare (sign_text z) (decimal (nat_abs z / 10 ^ 2)) (sign-bare z)
    (decimal-bare (nat_abs z / 10 ^ 2) (omega (arith, whole, h))))
    (digits-bare (last_digits 2 (nat_abs z)) (last-digits 2 (nat_abs z)))

-- ---- values

-- what is read of a value of a dimension
pub record IsField (text : List ℕ) : Type 0 where
  pub bare : list_all is_bare text ≡ true
  pub utf8 : is_utf8 text ≡ true
  pub short : is_short text ≡ true

drawn-less : (most s : ℕ) → 0 < most → number_drawn most s < most
unfolding number_drawn
drawn-less most s h = omega arith

value-field : (name n : ℕ) → name < 128 → is_bare name ≡ true → n < 100 → IsField (name ∷ decimal n)
value-field name n low bare few = record {
  bare = and_from (is_bare name) (list_all is_bare (decimal n)) bare (decimal-bare n (omega (arith, few)));
  utf8 = is_utf8-from_IsUtf8 (name ∷ decimal n)
      (IsUtf8-from_ascii (name ∷ decimal n) (IsAscii-cons name (decimal n) low (IsAscii-decimal n (omega (arith, few)))));
  short = le-leb (length (name ∷ decimal n)) MAX_TEXT
      (omega (arith, length-decimal-le 2 n (omega arith) (omega (arith, few)) (omega (arith, few))));
}

pub drawn-field : (name most s : ℕ) → name < 128 → is_bare name ≡ true → 0 < most → most ≤ 100
    → IsField (drawn_value name most s)
drawn-field name most s low bare some few
    = value-field name (number_drawn most (after_draw s)) low bare
    (omega (arith, drawn-less most (after_draw s) some, few))
