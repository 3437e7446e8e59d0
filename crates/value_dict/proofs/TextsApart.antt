-- The texts of codes: they tell the codes of a dictionary apart, and are the texts whose places the codes are.
use Rattle.std.proofs.Common.{◌≡◌, ◌⊎◌, inl, inr, ℕ, suc, ◌<◌, ◌≤◌, true, Some, None, List, [], ◌∷◌, length, map, get_or, refl, sym, ap}
use Rattle.std.proofs.Common.{ap₂, subst, ◌∙◌, arith, ltb-true, lt-ltb}
use Rattle.std.specs.List.{All, IsDistinct}
use Rattle.std.specs.Str.{bytes_eq}
use Rattle.std.proofs.Math.ListN.{get_or-eq_default}
use Rattle.std.proofs.lemmas.Bool.{cases_lt}
use Rattle.std.proofs.lemmas.List.Elements.{All-get_or}
use Rattle.cube_defs.specs.Text.{Text}
use Rattle.cube_defs.specs.Cell.{Cell, cell_of}
use Rattle.cube_defs.specs.Rows.{Row}
use Rattle.cube_laws.specs.Recoding.{AreKnown, RowsAreKnown, TellsApart, coded_cell, coded_row, coded_tuple}
use Rattle.value_dict.specs.Recoded.{has_code, text_in}
use Rattle.value_dict.specs.TextLists.{code_in}
use Rattle.value_dict.specs.Decoded.{HasTexts, has_text, place_in, decoded_cell}
use Rattle.value_dict.proofs.Distinct.{code_of_place}
use Rattle.value_dict.proofs.Places.{any-within, text-at}
use Rattle.value_dict.proofs.DecodedCells.{Fits, fits}

-- distinct texts tell their codes apart
pub texts-apart : (lists : List (List Text)) → All (IsDistinct bytes_eq) lists
    → TellsApart (has_code lists) (text_in lists)
texts-apart lists distinct = record { apart = λ i v w hv hw e. go i v w hv hw e (cases_lt i (length lists)) }
  where
    go : (i v w : ℕ) → has_code lists i v ≡ true → has_code lists i w ≡ true → text_in lists i v ≡ text_in lists i w
        → (i < length lists) ⊎ (length lists ≤ i) → v ≡ w
    go i v w hv hw e (inl l) =
        let own = All-get_or (IsDistinct bytes_eq) lists i [] l distinct in
        let a : code_in (get_or lists i []) (text_in lists i v) ≡ Some v
        = code_of_place (get_or lists i []) v (ltb-true v _ hv) own in
        let b : code_in (get_or lists i []) (text_in lists i w) ≡ Some w
        = code_of_place (get_or lists i []) w (ltb-true w _ hw) own in
        let same : Some v ≡ Some w = sym a ∙ ap (code_in (get_or lists i [])) e ∙ b in
        cc
    go i v w hv hw e (inr g) =
        let none : get_or lists i [] ≡ [] = get_or-eq_default lists [] g in
        absurd (omega (arith, ltb-true v _ hv, ap (λ (texts : List Text). length texts) none))

module _ (texts : List (List Text)) where
  -- a cell of codes is told by their texts
  pub told-texts : (k : ℕ) (lists : List (List Text)) (c : Cell ℕ) → Fits texts k lists → length c ≤ length lists
      → decoded_cell lists c ≡ coded_cell (text_in texts) k c
  told-texts k lists [] fit long = refl
  told-texts k [] (e ∷ c) fit long = absurd (omega arith)
  told-texts k (list ∷ lists) (None ∷ c) fit long = ap (λ x. None ∷ x) (told-texts (suc k) lists c fit.1 (omega arith))
  told-texts k (list ∷ lists) (Some code ∷ c) fit long
      = ap₂ (λ x y. Some x ∷ y) (ap (λ l. get_or l code []) (sym fit.0))
      (told-texts (suc k) lists c fit.1 (omega arith))

  has-known : (k : ℕ) (lists : List (List Text)) (c : Cell ℕ) → Fits texts k lists → AreKnown (has_code texts) k c
      → length c ≤ length lists → HasTexts lists c
  has-known k lists [] fit known long = tt
  has-known k [] (e ∷ c) fit known long = absurd (omega arith)
  has-known k (list ∷ lists) (None ∷ c) fit known long = has-known (suc k) lists c fit.1 known (omega arith)
  has-known k (list ∷ lists) (Some code ∷ c) fit known long
      = (
        subst (λ l. code < length l) fit.0 (ltb-true code _ known.0),
        has-known (suc k) lists c fit.1 known.1 (omega arith),
      )

  pub texts-known : (c : Cell ℕ) → AreKnown (has_code texts) 0 c → length c ≤ length texts → HasTexts texts c
  texts-known c known long = has-known 0 texts c (fits texts) known long

  pub told-known : (c : Cell ℕ) → length c ≤ length texts → decoded_cell texts c ≡ coded_cell (text_in texts) 0 c
  told-known c long = told-texts 0 texts c (fits texts) long

  tuple-back : (k : ℕ) (tuple : List Text) → AreKnown (has_text texts) k (cell_of tuple)
      → coded_tuple (text_in texts) k (coded_tuple (place_in texts) k tuple) ≡ tuple
  tuple-back k [] h = refl
  tuple-back k (v ∷ tuple) h
      = ap₂ (λ x xs. x ∷ xs) (sym (text-at v (get_or texts k []) h.0)) (tuple-back (suc k) tuple h.1)

  -- rows of known texts, as they are told by their codes
  pub rows-back : (rows : List (Row Text)) → RowsAreKnown (has_text texts) rows
      → map (coded_row (text_in texts)) (map (coded_row (place_in texts)) rows) ≡ rows
  rows-back [] h = refl
  rows-back (r ∷ rows) h =
      ap₂ (λ (t : List Text) (rs : List (Row Text)). record { id = r.id; tuple = t; amounts = r.amounts } ∷ rs)
      (tuple-back 0 r.tuple h.0) (rows-back rows h.1)

  tuple-coded : (k : ℕ) (tuple : List Text) → AreKnown (has_text texts) k (cell_of tuple)
      → AreKnown (has_code texts) k (cell_of (coded_tuple (place_in texts) k tuple))
  tuple-coded k [] h = tt
  tuple-coded k (v ∷ tuple) h
      = (
        lt-ltb (place_in texts k v) (length (get_or texts k [])) (any-within _ (get_or texts k []) h.0),
        tuple-coded (suc k) tuple h.1,
      )

  pub rows-coded : (rows : List (Row Text)) → RowsAreKnown (has_text texts) rows
      → RowsAreKnown (has_code texts) (map (coded_row (place_in texts)) rows)
  rows-coded [] h = tt
  rows-coded (r ∷ rows) h = (tuple-coded 0 r.tuple h.0, rows-coded rows h.1)
