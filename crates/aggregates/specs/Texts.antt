-- Numbers as they are printed.
use Rattle.std.specs.Prelude.{ℕ, zero, suc, ◌+◌, ◌/◌, ◌%◌, ◌^◌, List, [], ◌∷◌, ◌++◌, ℤ, pos, negsuc, nat_abs, decimal}
use Rattle.std.specs.Fmt.{signed_decimal}
use Rattle.cube_defs.specs.Rows.{Fraction}

-- the last so many digits of a number
abbrev pub last_digits : ℕ → ℕ → List ℕ
last_digits zero n = []
last_digits (suc k) n = (48 + n / 10 ^ k % 10) ∷ last_digits k n

-- a minus where the number is less than 0
abbrev pub sign_text : ℤ → List ℕ
sign_text (pos n) = []
sign_text (negsuc n) = 45 ∷ []

-- a point and as many digits as the scale says, where it says any
abbrev pub places_text : ℕ → ℕ → List ℕ
places_text zero n = []
places_text (suc scale) n = 46 ∷ last_digits (suc scale) n

abbrev pub amount_text : ℕ → ℤ → List ℕ
amount_text scale value = sign_text value ++ decimal (nat_abs value / 10 ^ scale) ++ places_text scale (nat_abs value)

abbrev pub ratio_text : Fraction → List ℕ
ratio_text f = signed_decimal f.num ++ 47 ∷ decimal f.den
