-- A text cut at each of some bytes, and its words.
use Rattle.std.specs.Prelude.{ℕ, Bool, true, false, ◌==◌, List, [], ◌∷◌, filter, if◌then◌else◌}
use Rattle.text_lines.specs.Lines.{with_first}

-- what stands between the bytes of this value, nothing between two of them
abbrev pub cut_at : ℕ → List ℕ → List (List ℕ)
cut_at at [] = [] ∷ []
cut_at at (b ∷ bs) = if b == at then [] ∷ cut_at at bs else with_first b (cut_at at bs)

abbrev pub has_bytes : List ℕ → Bool
has_bytes [] = false
has_bytes (b ∷ bs) = true

-- the words of a line stand between spaces
unfoldable pub words_of : List ℕ → List (List ℕ)
words_of line = filter has_bytes (cut_at 32 line)
