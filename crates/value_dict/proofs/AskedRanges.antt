-- The cells of a box that fields ask for, by codes and by texts.
use Rattle.std.proofs.Common.{◌≡◌, ◌∙◌, ℕ, List, ap₂, map}
use Rattle.cube_defs.specs.Text.{Text, text_cmp}
use Rattle.cube_defs.specs.Rows.{Row}
use Rattle.cube_defs.specs.Answers.{Box, range}
use Rattle.cube_laws.specs.Recoding.{RowsAreKnown, coded_row, known_box}
use Rattle.cube_laws.proofs.CallerLemmas.{range-known}
use Rattle.value_dict.specs.Boxes.{decoded_box}
use Rattle.value_dict.specs.Recoded.{decoded_row_list}
use Rattle.value_dict.specs.Decoded.{has_text, place_in}
use Rattle.value_dict.proofs.AskedValues.{text_anti, text_total}
use Rattle.value_dict.proofs.TextsApart.{rows-back}

-- rows of known texts, and a box whose texts are the known ones of a box that is asked
pub range-asked : (texts : List (List Text)) (measures : ℕ) (rows : List (Row Text)) (box : Box ℕ) (asked : Box Text)
    → RowsAreKnown (has_text texts) rows → decoded_box texts box ≡ known_box (has_text texts) 0 asked
    → range text_cmp measures (decoded_row_list texts (map (coded_row (place_in texts)) rows)) (decoded_box texts box)
    ≡ range text_cmp measures rows asked
range-asked texts measures rows box asked known is =
    ap₂ (λ (rs : List (Row Text)) (b : Box Text). range text_cmp measures rs b) (rows-back texts rows known) is
    ∙ range-known text_total text_anti (has_text texts) rows known measures asked
