-- Codes as they are told: lists of texts, a list for each dimension, in which a code is a place.
use Rattle.std.specs.Prelude.{ℕ, Bool, ◌≡◌, ◌<◌, ⊤, List, [], ◌∷◌, None, Some, map, length, slice_index_or}
use Rattle.std.specs.List.{All, list_any, position_or_len}
use Rattle.std.specs.Str.{bytes_eq}
use Rattle.std.specs.Option.{option_map}
use Rattle.cube_defs.specs.Text.{Text}
use Rattle.cube_defs.specs.Cell.{Cell}
use Rattle.cube_defs.specs.Rows.{Row}
use Rattle.cube_defs.specs.Answers.{ClassHit}

-- whether a dimension has a text
abbrev pub has_text : List (List Text) → ℕ → Text → Bool
has_text texts dim text = list_any (bytes_eq text) (slice_index_or texts dim [])

-- the place of a text among those of a dimension, counted from 0
abbrev pub place_in : List (List Text) → ℕ → Text → ℕ
place_in texts dim text = position_or_len (bytes_eq text) (slice_index_or texts dim [])

-- the text of a code
abbrev pub text_of : List Text → ℕ → Text
text_of texts code = slice_index_or texts code []

-- the texts of codes
abbrev pub decoded : List (List Text) → List ℕ → List Text
decoded lists [] = []
decoded [] (code ∷ codes) = []
decoded (texts ∷ lists) (code ∷ codes) = slice_index_or texts code [] ∷ decoded lists codes

-- a row with the texts of its codes
abbrev pub decoded_row : List (List Text) → Row ℕ → Row Text
decoded_row lists row = record { id = row.id; tuple = decoded lists row.tuple; amounts = row.amounts }

-- each code is that of a text
abbrev pub AreCodes : List (List Text) → List ℕ → Type 0
AreCodes lists [] = ⊤
AreCodes [] (code ∷ codes) = ⊥
AreCodes (texts ∷ lists) (code ∷ codes) = (code < length texts) × AreCodes lists codes

-- the codes of some rows are those of texts
abbrev pub RowsAreCodes : List (List Text) → List (Row ℕ) → Type 0
RowsAreCodes lists rows = All (λ row. AreCodes lists row.tuple) rows

-- a cell with the texts of its codes
abbrev pub decoded_cell : List (List Text) → Cell ℕ → Cell Text
decoded_cell lists [] = []
decoded_cell [] (entry ∷ cell) = []
decoded_cell (texts ∷ lists) (entry ∷ cell) = option_map (text_of texts) entry ∷ decoded_cell lists cell

-- each code of a cell is that of a text
abbrev pub HasTexts : List (List Text) → Cell ℕ → Type 0
HasTexts lists [] = ⊤
HasTexts [] (entry ∷ cell) = ⊥
HasTexts (texts ∷ lists) (None ∷ cell) = HasTexts lists cell
HasTexts (texts ∷ lists) (Some code ∷ cell) = (code < length texts) × HasTexts lists cell

-- a class with the texts of its codes
abbrev pub decoded_class : List (List Text) → ClassHit ℕ → ClassHit Text
decoded_class lists hit
    = record { upper = decoded_cell lists hit.upper; agg = hit.agg; lowers = map (decoded_cell lists) hit.lowers }

-- a class that can be told: its codes have texts, and it has a part for each measure
pub record IsDecodableClass (lists : List (List Text)) (measures : ℕ) (hit : ClassHit ℕ) : Type 0 where
  pub upper : HasTexts lists hit.upper
  pub lowers : All (HasTexts lists) hit.lowers
  pub parts : length hit.agg.parts ≡ measures
