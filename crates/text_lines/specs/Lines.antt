-- The lines of a text, and the byte order mark before it.
use Rattle.std.specs.Prelude.{ℕ, Bool, false, List, [], ◌∷◌, ◌==◌, ◌&&◌, take, drop, length, slice_index, ◌-◌, nat_eq, if◌then◌else◌}
use Rattle.std.specs.List.{starts_with}

-- a byte before the first of some pieces
abbrev pub with_first : ℕ → List (List ℕ) → List (List ℕ)
with_first b [] = (b ∷ []) ∷ []
with_first b (piece ∷ pieces) = (b ∷ piece) ∷ pieces

-- each line ends with LF, or with the text
abbrev pub lines_of : List ℕ → List (List ℕ)
lines_of [] = []
lines_of (b ∷ bs) = if b == 10 then [] ∷ lines_of bs else with_first b (lines_of bs)

-- a line without the CR at its end, where it has one
abbrev pub without_cr : List ℕ → List ℕ
without_cr line = if slice_index line (length line - 1) == 13 then take (length line - 1) line else line

-- whether a line begins with `#`
abbrev pub is_comment : List ℕ → Bool
is_comment [] = false
is_comment (b ∷ bs) = b == 35

abbrev pub mark : List ℕ
mark = 0xEF ∷ 0xBB ∷ 0xBF ∷ []

-- whether a text begins with a byte order mark
abbrev pub begins_with_mark : List ℕ → Bool
begins_with_mark text = starts_with nat_eq text mark

-- the byte order mark, and directly after it another
abbrev pub begins_with_two_marks : List ℕ → Bool
begins_with_two_marks text = begins_with_mark text && begins_with_mark (drop 3 text)

-- a text without the byte order mark at its beginning, where it has one
abbrev pub without_mark : List ℕ → List ℕ
without_mark text = if begins_with_mark text then drop 3 text else text
