-- Marks on numbers, kept one bit each.
use Rattle.std.specs.Prelude.{ℕ, ◌*◌, ◌/◌, ◌%◌, Bool, false, not, ◌||◌, List, map, length, slice_index_or}
use Rattle.std.specs.List.{list_all, range_with_len}
use Rattle.cells_below.specs.Numbers.{has_bit, turned}

-- the bits of some words of 64 bits
abbrev pub bit_in : List ℕ → ℕ → Bool
bit_in words m = has_bit (slice_index_or words (m / 64) 0) (m % 64)

abbrev pub bits_of : List ℕ → List Bool
bits_of words = map (bit_in words) (range_with_len 0 (64 * length words))

abbrev pub is_marked : List Bool → ℕ → Bool
is_marked marks m = slice_index_or marks m false

-- of numbers with d bits: none with one bit less is marked
abbrev pub is_least : List Bool → ℕ → ℕ → Bool
is_least marks d m = list_all (λ k. not (has_bit m k) || not (is_marked marks (turned m k))) (range_with_len 0 d)
