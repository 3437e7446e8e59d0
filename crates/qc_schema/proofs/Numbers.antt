-- Numbers of a few digits.
use Rattle.std.proofs.Common.{◌≡◌, ◌<◌, ◌≤◌, ◌^◌, ℕ, List, arith, true, Some, None}
use Rattle.std.specs.Prelude.{Option, if◌then◌else◌}
use Rattle.std.specs.Char.{is_ascii_digit}
use Rattle.std.specs.Str.{all_ascii_digits}
use Rattle.std.specs.Str.Parse.{digits_value_after}
use Rattle.std.proofs.lemmas.Bool.Decides.{nat_tests}
use Rattle.std.proofs.Math.Nat.{pow-le-pow_right}

-- what the digits that are left give, after those of a number
abbrev pub read_on : ℕ → List ℕ → Option ℕ
read_on n text = if all_ascii_digits text then Some (digits_value_after 10 n text) else None

pub digit-from : (b : ℕ) → is_ascii_digit b ≡ true → (48 ≤ b) × (b ≤ 57)
digit-from b h = grind (arith, nat_tests)

-- a number of i digits stays small
pub small : (n i : ℕ) → n < 10 ^ i → i < 7 → n < 1000000
small n i h lt = let le : i ≤ 6 = omega arith in omega (arith, pow-le-pow_right {n = 10} (omega arith) le)
