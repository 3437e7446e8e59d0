-- Texts for codes, as the laws of recoding take them: by dimension.
use Rattle.std.specs.Prelude.{ℕ, ◌<◌, All, Bool, List, [], length, map, nat_lt, slice_index_or}
use Rattle.cube_defs.specs.Text.{Text}
use Rattle.cube_defs.specs.Rows.{Row}
use Rattle.cube_laws.specs.Recoding.{coded_row}

-- the text of a code in a dimension
abbrev pub text_in : List (List Text) → ℕ → ℕ → Text
text_in lists dim code = slice_index_or (slice_index_or lists dim []) code []

-- whether a code of a dimension has a text
abbrev pub has_code : List (List Text) → ℕ → ℕ → Bool
has_code lists dim code = nat_lt code (length (slice_index_or lists dim []))

-- each code of a dimension has a text
abbrev pub HaveTexts : List (List Text) → ℕ → List ℕ → Type 0
HaveTexts lists dim codes = All (λ code. code < length (slice_index_or lists dim [])) codes

-- rows with the texts of their codes
abbrev pub decoded_row_list : List (List Text) → List (Row ℕ) → List (Row Text)
decoded_row_list lists rows = map (coded_row (text_in lists)) rows
