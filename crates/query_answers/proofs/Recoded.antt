-- The state's rows and a box of the state's texts, by codes and by texts.
use Rattle.std.proofs.Common.{◌≡◌, ◌∙◌, ℕ, List, sym, ap, ap₂, subst}
use Rattle.cube_defs.specs.Text.{Text, text_cmp}
use Rattle.cube_defs.specs.Answers.{Box, range}
use Rattle.cube_laws.specs.Recoding.{RowsAreKnown, known_box}
use Rattle.cell_core.specs.declared.fields.Field.{Field}
use Rattle.value_dict.specs.Boxes.{fields_box, decoded_box}
use Rattle.value_dict.specs.Recoded.{has_code, decoded_row_list}
use Rattle.value_dict.specs.Decoded.{has_text}
use Rattle.value_dict.proofs.CallerLemmas.{range-asked, rows-back, rows-coded}
use Rattle.range_query.specs.Work.{work}
use Rattle.warehouse.specs.State.{IsState, State, coded_rows}

module _ (s : State) (is : IsState s) (lists : List (List Text)) (same : lists ≡ s.texts) where
  pub rows-known : RowsAreKnown (has_code lists) (coded_rows s)
  rows-known = subst (λ l. RowsAreKnown (has_code l) (coded_rows s)) (sym same)
      (rows-coded s.texts s.rows is.consistent.known)

  pub rows-told : decoded_row_list lists (coded_rows s) ≡ s.rows
  rows-told = ap (λ l. decoded_row_list l (coded_rows s)) same ∙ rows-back s.texts s.rows is.consistent.known

  -- a box of the known texts that fields ask for
  module _ (cells : Box ℕ) (asked : List Field)
      (is_box : decoded_box lists cells ≡ known_box (has_text lists) 0 (fields_box lists 0 asked)) where
    box-told : decoded_box s.texts cells ≡ known_box (has_text s.texts) 0 (fields_box s.texts 0 asked)
    box-told = subst (λ l. decoded_box l cells ≡ known_box (has_text l) 0 (fields_box l 0 asked)) same is_box

    pub range-told : (measures : ℕ)
        → range text_cmp measures (decoded_row_list lists (coded_rows s)) (decoded_box lists cells)
        ≡ range text_cmp measures s.rows (fields_box s.texts 0 asked)
    range-told measures =
        ap (λ l. range text_cmp measures (decoded_row_list l (coded_rows s)) (decoded_box l cells)) same
        ∙ range-asked s.texts measures s.rows cells (fields_box s.texts 0 asked) is.consistent.known box-told

    pub work-told : work text_cmp (decoded_row_list lists (coded_rows s)) (decoded_box lists cells)
        ≡ work text_cmp s.rows (known_box (has_text s.texts) 0 (fields_box s.texts 0 asked))
    work-told = ap₂ (work text_cmp) rows-told (ap (λ l. decoded_box l cells) same ∙ box-told)
