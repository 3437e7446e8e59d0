-- Numbers as they are read.
use Rattle.std.specs.Prelude.{ℕ, zero, suc, ◌+◌, ◌-◌, ◌*◌, ◌^◌, ◌==◌, nat_le, nat_lt, Bool, false, not, ◌&&◌, Option, Some, None, List, []}
use Rattle.std.specs.Prelude.{◌∷◌, length, drop, ℤ, pos, neg_ℤ, if◌then◌else◌}
use Rattle.std.specs.Char.{is_ascii_digit}
use Rattle.std.specs.List.{list_all}
use Rattle.std.specs.Option.{option_map}
use Rattle.std.specs.Str.{all_ascii_digits}
use Rattle.cube_defs.specs.Rows.{Fraction}
use Rattle.cube_defs.specs.declared.limits.TheConstants.{MAX_AMOUNT, MAX_SCALE}

-- the number that digits write after those of n
abbrev pub number_after : ℕ → List ℕ → ℕ
number_after n [] = n
number_after n (c ∷ cs) = number_after (10 * n + (c - 48)) cs

abbrev pub number : List ℕ → ℕ
number text = number_after 0 text

-- one or more digits
abbrev pub is_number : List ℕ → Bool
is_number [] = false
is_number (c ∷ cs) = all_ascii_digits (c ∷ cs)

-- the digits at the beginning
abbrev pub digit_prefix : List ℕ → List ℕ
digit_prefix [] = []
digit_prefix (c ∷ cs) = if is_ascii_digit c then c ∷ digit_prefix cs else []

-- what follows them
abbrev pub after_digits : List ℕ → List ℕ
after_digits [] = []
after_digits (c ∷ cs) = if is_ascii_digit c then after_digits cs else c ∷ cs

-- an id: one or more digits of a number less than 2 ^ 64
abbrev pub id_in : List ℕ → Option ℕ
id_in text = if is_number text && nat_lt (number text) (2 ^ 64) then Some (number text) else None

-- what the digits after a point stand for, in units of the scale's last place; those after that place count for
-- nothing
abbrev pub places : ℕ → List ℕ → ℕ
places zero text = 0
places (suc scale) [] = 0
places (suc scale) (c ∷ cs) = (c - 48) * 10 ^ scale + places scale cs

-- one or more digits, of which those after the scale's last place are all 0
abbrev pub places_in : ℕ → List ℕ → Option ℕ
places_in scale text = if is_number text && list_all (λ c. c == 48) (drop scale text)
    then Some (places scale text) else None

-- after the whole digits stands nothing, or a point and its digits
abbrev pub tail_in : ℕ → List ℕ → Option ℕ
tail_in scale [] = Some 0
tail_in scale (c ∷ cs) = if c == 46 then places_in scale cs else None

abbrev pub within : Option ℕ → Option ℕ
within None = None
within (Some n) = if nat_le n MAX_AMOUNT then Some n else None

-- an amount without its sign: one or more digits, and then what may follow, of a number that is not too large
abbrev pub magnitude_in : ℕ → List ℕ → Option ℕ
magnitude_in scale text =
    if is_number (digit_prefix text)
    then within (option_map (λ n. number (digit_prefix text) * 10 ^ scale + n) (tail_in scale (after_digits text)))
    else None

-- an amount: it may begin with a sign
abbrev pub amount_in : ℕ → List ℕ → Option ℤ
amount_in scale [] = None
amount_in scale (c ∷ cs) =
    if c == 45 then option_map (λ n. neg_ℤ (pos n)) (magnitude_in scale cs)
    else option_map (λ n. pos n) (magnitude_in scale (if c == 43 then cs else c ∷ cs))

-- one to so many digits
abbrev pub is_short : ℕ → List ℕ → Bool
is_short most text = is_number text && nat_le (length text) most

-- n with the digits after a point
abbrev pub point_tail : ℕ → List ℕ → Option Fraction
point_tail n text = if is_short MAX_SCALE text
    then Some (record { num = pos (n * 10 ^ length text + number text); den = 10 ^ length text }) else None

-- n over digits that are not all 0
abbrev pub slash_tail : ℕ → List ℕ → Option Fraction
slash_tail n text = if is_short 18 text && not (number text == 0)
    then Some (record { num = pos n; den = number text }) else None

-- n is followed by nothing, by a point or by a slash
abbrev pub fraction_tail : ℕ → List ℕ → Option Fraction
fraction_tail n [] = Some (record { num = pos n; den = 1 })
fraction_tail n (c ∷ cs) = if c == 46 then point_tail n cs else (if c == 47 then slash_tail n cs else None)

abbrev pub positive_fraction : List ℕ → Option Fraction
positive_fraction text = if is_short 18 (digit_prefix text)
    then fraction_tail (number (digit_prefix text)) (after_digits text) else None

-- a fraction: it may begin with a minus
abbrev pub fraction_written : List ℕ → Option Fraction
fraction_written [] = None
fraction_written (c ∷ cs) =
    if c == 45 then option_map (λ f. record { num = neg_ℤ f.num; den = f.den }) (positive_fraction cs)
    else positive_fraction (c ∷ cs)
