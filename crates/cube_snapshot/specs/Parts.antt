-- The parts of a snapshot after its schema.
use Rattle.std.specs.Prelude.{◌≡◌, ℕ, ◌<◌, ◌≤◌, ◌^◌, List, Option, Some, None, ℤ, length, nat_abs, nat_le, if◌then◌else◌}
use Rattle.std.specs.Int.{w32, w64, cast_signed, cast_unsigned}
use Rattle.std.specs.List.{AllByRecursion}
use Rattle.cube_defs.specs.Text.{Text}
use Rattle.cube_defs.specs.Rows.{Row}
use Rattle.cube_defs.specs.declared.limits.TheConstants.{MAX_AMOUNT}
use Rattle.cube_snapshot.specs.Format.{Format, byte, with_count, then_format, number, mapped_format, sized, repeated}

-- a text whose length takes one byte
abbrev pub text : Format Text
text = sized byte

-- the texts of a dimension
abbrev pub texts : Format (List Text)
texts = with_count text (number w32)

-- an amount in two's complement
abbrev pub amount_of : ℕ → Option ℤ
amount_of n = if nat_le (nat_abs (cast_signed w64 n)) MAX_AMOUNT then Some (cast_signed w64 n) else None

abbrev pub amount : Format ℤ
amount = mapped_format (number w64) (cast_unsigned w64) amount_of

abbrev pub row_of : ℕ × (List ℕ × List ℤ) → Row ℕ
row_of p = record { id = p.0; tuple = p.1.0; amounts = p.1.1 }

-- a row with so many dimensions and measures
abbrev pub row : ℕ → ℕ → Format (Row ℕ)
row dims measures =
    mapped_format (then_format (number w64)
    (λ _. then_format (repeated (number w32) dims) (λ _. repeated amount measures)))
    (λ r. (r.id, (r.tuple, r.amounts))) (λ p. Some (row_of p))

abbrev pub rows : ℕ → ℕ → Format (List (Row ℕ))
rows dims measures = with_count (row dims measures) (number w32)

-- the texts that have a spelling
abbrev pub AreTexts : List Text → Type 0
AreTexts ts = (length ts < 2 ^ 32) × AllByRecursion (λ t. length t < 256) ts

abbrev pub IsAmount : ℤ → Type 0
IsAmount z = nat_abs z ≤ MAX_AMOUNT

-- a row of so many dimensions and measures that has a spelling
pub record IsRow (dims measures : ℕ) (r : Row ℕ) : Type 0 where
  pub id : r.id < 2 ^ 64
  pub codes : (length r.tuple ≡ dims) × AllByRecursion (λ n. n < 2 ^ 32) r.tuple
  pub amounts : (length r.amounts ≡ measures) × AllByRecursion IsAmount r.amounts
