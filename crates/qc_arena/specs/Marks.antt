-- Bits that numbers share.
use Rattle.std.specs.Prelude.{◌≡◌, ℕ, ◌-◌, ◌<◌, ◌/◌, ◌%◌, List, Bool, true, ◌&&◌, bit_and, length, nat_eq, slice_index, slice_index_or}
use Rattle.std.specs.Int.{bit_at}

-- the word, of so many, that has the bit of a number
abbrev pub place_in : ℕ → ℕ → ℕ
place_in words number = bit_and (number / 64) (words - 1)

-- whether a number's bit is set
abbrev pub is_marked : List ℕ → ℕ → Bool
is_marked words number = nat_eq (bit_at (slice_index words (place_in (length words) number)) (number % 64)) 1

-- whether two numbers have the same bit, among so many words
abbrev pub share_bit : ℕ → ℕ → ℕ → Bool
share_bit words number other = nat_eq (place_in words number) (place_in words other)
    && nat_eq (number % 64) (other % 64)

-- the bits of the first numbers are set
abbrev pub AreMarkedUpTo : ℕ → List ℕ → List ℕ → Type 0
AreMarkedUpTo count words numbers = (i d : ℕ) → i < count → is_marked words (slice_index_or numbers i d) ≡ true

-- the bits of all numbers are set
abbrev pub AreMarked : List ℕ → List ℕ → Type 0
AreMarked words numbers = AreMarkedUpTo (length numbers) words numbers

-- what was set stays set
abbrev pub KeepsMarks : List ℕ → List ℕ → Type 0
KeepsMarks before words = (q : ℕ) → is_marked before q ≡ true → is_marked words q ≡ true
