-- The first bytes of a text as a number.
use Rattle.std.specs.Prelude.{◌≡◌, ℕ, zero, suc, ◌+◌, ◌*◌, ◌<◌, drop, slice_index_or}
use Rattle.cube_defs.specs.Text.{Text}

-- a number, followed by so many bytes of a text; zeros follow a text
abbrev pub followed : ℕ → ℕ → Text → ℕ
followed start zero text = start
followed start (suc n) text = followed (start * 256 + slice_index_or text 0 0) n (drop 1 text)

-- the first eight bytes
abbrev pub start_in : Text → ℕ
start_in text = followed 0 8 text

-- each item is a byte
abbrev pub IsBytes : Text → Type 0
IsBytes text = (k : ℕ) → slice_index_or text k 0 < 256

-- a text of bytes, and its start
pub record HasStart (text : Text) (start : ℕ) : Type 0 where
  pub is : start ≡ start_in text
  pub bytes : IsBytes text
