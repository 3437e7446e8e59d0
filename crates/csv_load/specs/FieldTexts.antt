-- Texts that lie one after the other in a buffer, with the place where each ends.
use Rattle.std.specs.Prelude.{◌≡◌, ◌≤◌, ◌<◌, ◌-◌, ◌==◌, ℕ, List, map, length, slice_index, slice_range, if◌then◌else◌}
use Rattle.std.specs.List.{range_with_len}
use Rattle.std.specs.Str.{IsCharBoundary}

-- a text begins where the one before it ends
abbrev pub start_at : List ℕ → ℕ → ℕ
start_at ends k = if k == 0 then 0 else slice_index ends (k - 1)

abbrev pub text_between : List ℕ → List ℕ → ℕ → List ℕ
text_between ends bytes k = slice_range bytes (start_at ends k) (slice_index ends k)

abbrev pub texts_of : List ℕ → List ℕ → List (List ℕ)
texts_of ends bytes = map (text_between ends bytes) (range_with_len 0 (length ends))

-- the places rise, the buffer may be cut at each, and the last is its end
pub record IsCut (ends bytes : List ℕ) : Type 0 where
  pub last : start_at ends (length ends) ≡ length bytes
  pub rise : (k : ℕ) → k < length ends → start_at ends k ≤ slice_index ends k
  pub within : (k : ℕ) → k < length ends → slice_index ends k ≤ length bytes
  pub cut : (k : ℕ) → k < length ends → IsCharBoundary bytes (slice_index ends k)
