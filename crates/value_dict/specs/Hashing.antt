-- The hash of a text.
use Rattle.std.specs.Prelude.{ℕ, ◌+◌, ◌*◌, ◌%◌, ◌^◌, List, [], ◌∷◌, length, slice_index_or, Bool, nat_eq, ◌&&◌, if◌then◌else◌}
use Rattle.value_dict.specs.declared.text_keys.TextHasher.{TextHasher}
use Rattle.value_dict.specs.declared.text_keys.TheConstants.{END, PRIME, SPREAD}

-- the number whose bytes are those of a piece, which are at most three, and then its length
abbrev pub coefficient : List ℕ → ℕ
coefficient piece = slice_index_or piece 0 0 + 256 * slice_index_or piece 1 0 + 65_536 * slice_index_or piece 2 0
    + 16_777_216 * length piece

-- the value of the polynomial with one more coefficient
abbrev pub step : ℕ → ℕ → ℕ → ℕ
step multiplier value coefficient = (value * multiplier + coefficient) % PRIME

-- the value with a coefficient more for each piece of three bytes, and one for the bytes that are left
abbrev pub value_after : ℕ → ℕ → List ℕ → ℕ
value_after multiplier value (a ∷ b ∷ c ∷ d ∷ more)
    = value_after multiplier (step multiplier value (coefficient (a ∷ b ∷ c ∷ []))) (d ∷ more)
value_after multiplier value rest = step multiplier value (coefficient rest)

-- the value of a text's polynomial, of which the first piece is the highest coefficient
abbrev pub value_of : ℕ → List ℕ → ℕ
value_of multiplier (a ∷ b ∷ c ∷ d ∷ more) = value_after multiplier (coefficient (a ∷ b ∷ c ∷ [])) (d ∷ more)
value_of multiplier rest = coefficient rest

-- whether this is what is written after each text
abbrev pub is_end : List ℕ → Bool
is_end bytes = nat_eq (length bytes) 1 && nat_eq (slice_index_or bytes 0 0) END

abbrev pub write : TextHasher → List ℕ → TextHasher
write h bytes = if is_end bytes then h else record h { value = value_of h.multiplier bytes }

abbrev pub finish : TextHasher → ℕ
finish h = (h.value * h.multiplier * SPREAD) % 2 ^ 64
