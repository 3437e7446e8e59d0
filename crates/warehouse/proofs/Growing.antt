-- Rows of codes, where lists of texts grow.
use Rattle.std.proofs.Common.{◌≡◌, ◌∙◌, ℕ, List, [], ◌∷◌, ◌++◌, ℤ, false, length, get_or, map, refl, sym, ap, ap₂, arith}
use Rattle.std.proofs.lemmas.List.{get_or-take, map-append}
use Rattle.std.proofs.lemmas.List.Elements.{All-head, All-tail, All-weaker}
use Rattle.cube_defs.specs.Cell.{Cell}
use Rattle.cube_defs.specs.Rows.{Row}
use Rattle.cube_defs.specs.Text.{Text}
use Rattle.base_table.specs.Places.{row_of, values_of}
use Rattle.csv_load.specs.Batch.{Change, Delete, Insert, id_of, inserted, is_deletion}
use Rattle.value_dict.specs.TextLists.{TextLists, cut}
use Rattle.value_dict.proofs.CallerLemmas.{with_lists}
use Rattle.warehouse.proofs.Changes.{amounts_of, tuple_of}
use Rattle.warehouse.specs.Steps.{AreLonger}
use Rattle.value_dict.specs.Decoded.{AreCodes, RowsAreCodes, decoded, decoded_row}
use Rattle.warehouse.proofs.Texts.{prefix-length, longer-head, longer-tail}

-- a dictionary cut back to the lengths that its lists had is as it was
pub cut-back : (was now back : TextLists) (lens : List ℕ) → lens ≡ map (λ (texts : List Text). length texts) was.lists
    → back.lists ≡ cut now.lists lens → back.max ≡ now.max → now.max ≡ was.max
    → AreLonger was.lists now.lists → back ≡ was
cut-back was now back lens are cuts max same longer
    = ap₂ with_lists (max ∙ same) (cuts ∙ ap (cut now.lists) are ∙ longer.fronts)

decoded-longer : (before now : List (List Text)) (codes : List ℕ) → AreLonger before now → AreCodes before codes
    → decoded now codes ≡ decoded before codes
decoded-longer before now [] longer are = refl
decoded-longer [] now (code ∷ codes) longer are = absurd are
decoded-longer (b ∷ before) [] (code ∷ codes) longer are = absurd (omega (arith, longer.dims))
decoded-longer (b ∷ before) (n ∷ now) (code ∷ codes) longer are =
    ap₂ (λ (x : Text) (xs : List Text). x ∷ xs)
    (sym (get_or-take (length b) n code [] are.0)
    ∙ ap (λ (ts : List Text). get_or ts code []) (longer-head b n before now longer))
    (decoded-longer before now codes (longer-tail b n before now longer) are.1)

codes-longer : (before now : List (List Text)) (codes : List ℕ) → AreLonger before now → AreCodes before codes
    → AreCodes now codes
codes-longer before now [] longer are = tt
codes-longer [] now (code ∷ codes) longer are = absurd are
codes-longer (b ∷ before) [] (code ∷ codes) longer are = absurd (omega (arith, longer.dims))
codes-longer (b ∷ before) (n ∷ now) (code ∷ codes) longer are = (
  omega (arith, are.0, prefix-length b n (longer-head b n before now longer)),
  codes-longer before now codes (longer-tail b n before now longer) are.1,
)

pub known-longer : (before now : List (List Text)) (rows : List (Row ℕ)) → AreLonger before now
    → RowsAreCodes before rows → RowsAreCodes now rows
known-longer before now rows longer are
    = All-weaker (λ (row : Row ℕ). AreCodes before row.tuple) (λ (row : Row ℕ). AreCodes now row.tuple)
    (λ row is. codes-longer before now row.tuple longer is) rows are

pub rows-longer : (before now : List (List Text)) (rows : List (Row ℕ)) → AreLonger before now
    → RowsAreCodes before rows → map (decoded_row now) rows ≡ map (decoded_row before) rows
rows-longer before now [] longer are = refl
rows-longer before now (row ∷ rows) longer are =
    ap₂ (λ (r : Row Text) (rs : List (Row Text)). r ∷ rs)
    (ap (λ (tuple : List Text). let r : Row Text = record { id = row.id; tuple = tuple; amounts = row.amounts } in
    r) (decoded-longer before now row.tuple longer
    (All-head (λ (r : Row ℕ). AreCodes before r.tuple) row rows are)))
    (rows-longer before now rows longer (All-tail (λ (r : Row ℕ). AreCodes before r.tuple) row rows are))

-- a row that was put in is that of the insertion
inserted-row : (now : List (List Text)) (c : Change Text) (cell : Cell ℕ) (id : ℕ) (amounts : List ℤ)
    → is_deletion c ≡ false → id ≡ id_of c → decoded now (values_of cell) ≡ tuple_of c → amounts ≡ amounts_of c
    → decoded_row now (row_of id cell amounts) ∷ [] ≡ inserted (c ∷ [])
inserted-row now (Delete other) cell id amounts is same texts sums = cc
inserted-row now (Insert row) cell id amounts is same texts sums = λ j. let r : Row Text
    = record { id = same j; tuple = texts j; amounts = sums j } in r ∷ []

pub row-inserted : (before now : List (List Text)) (rows rows' : List (Row ℕ)) (c : Change Text) (cell : Cell ℕ)
    (id : ℕ) (amounts : List ℤ) → is_deletion c ≡ false → id ≡ id_of c → decoded now (values_of cell) ≡ tuple_of c
    → amounts ≡ amounts_of c
    → AreLonger before now → RowsAreCodes before rows → rows' ≡ rows ++ row_of id cell amounts ∷ []
    → map (decoded_row now) rows' ≡ map (decoded_row before) rows ++ inserted (c ∷ [])
row-inserted before now rows rows' c cell id amounts is same texts sums longer are more =
    ap (map (decoded_row now)) more
    ∙ map-append (decoded_row now) rows (row_of id cell amounts ∷ [])
    ∙ ap₂ (λ (xs ys : List (Row Text)). xs ++ ys) (rows-longer before now rows longer are)
    (inserted-row now c cell id amounts is same texts sums)
