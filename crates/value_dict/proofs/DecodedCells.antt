-- Cells over the codes of known texts: they are told by these texts, and cover what the cells of texts cover.
use Rattle.std.proofs.Common.{◌≡◌, ◌<◌, ◌≤◌, ◌+◌, ◌∙◌, ℕ, suc, Bool, true, false, Some, None, List, [], ◌∷◌, map, length, get_or, refl, sym}
use Rattle.std.proofs.Common.{ap, ap₂, subst, arith}
use Rattle.std.specs.Prelude.{⊤}
use Rattle.std.specs.List.{AllByRecursion}
use Rattle.std.specs.Ordering.{eq_by_cmp, nat_cmp}
use Rattle.cube_defs.specs.Text.{Text, text_eq}
use Rattle.cube_defs.specs.Cell.{Cell, cell_of}
use Rattle.cube_defs.specs.Rows.{Row, covers, cov}
use Rattle.cube_laws.specs.Recoding.{AreKnown, RowsAreKnown, coded_cell, coded_row}
use Rattle.cube_laws.specs.Total.{agg_at, agg_some}
use Rattle.cube_laws.proofs.CallerLemmas.{agg_of-coded, cov-coded, known-below, code_equality}
use Rattle.value_dict.specs.Decoded.{HasTexts, has_text, place_in, text_of, decoded_cell}
use Rattle.value_dict.proofs.Places.{any-within, places-apart, text-at, text_equality}

-- the lists from dimension k on
abbrev pub Fits : List (List Text) → ℕ → List (List Text) → Type 0
Fits texts k [] = ⊤
Fits texts k (list ∷ lists) = (get_or texts k [] ≡ list) × Fits texts (suc k) lists

fits-from : (texts : List (List Text)) (k : ℕ) (lists : List (List Text))
    → ((i : ℕ) → get_or texts (k + i) [] ≡ get_or lists i []) → Fits texts k lists
fits-from texts k [] h = tt
fits-from texts k (list ∷ lists) h =
    let first : k + 0 ≡ k = omega arith in
    (subst (λ n. get_or texts n [] ≡ list) first (h 0), fits-from texts (suc k) lists later)
  where
    later : (i : ℕ) → get_or texts (suc k + i) [] ≡ get_or lists i []
    later i = let next : k + suc i ≡ suc k + i = omega arith in
        subst (λ n. get_or texts n [] ≡ get_or lists i []) next (h (suc i))

pub fits : (texts : List (List Text)) → Fits texts 0 texts
fits texts = fits-from texts 0 texts (λ i. let same : 0 + i ≡ i = omega arith in ap (λ n. get_or texts n []) same)

module _ (texts : List (List Text)) where
  -- the texts of the codes of known texts are these texts
  pub told-coded : (k : ℕ) (lists : List (List Text)) (c : Cell Text) → Fits texts k lists
      → AreKnown (has_text texts) k c → length c ≤ length lists
      → decoded_cell lists (coded_cell (place_in texts) k c) ≡ c
  told-coded k lists [] fit known long = refl
  told-coded k [] (e ∷ c) fit known long = absurd (omega arith)
  told-coded k (list ∷ lists) (None ∷ c) fit known long
      = ap (λ x. None ∷ x) (told-coded (suc k) lists c fit.1 known (omega arith))
  told-coded k (list ∷ lists) (Some v ∷ c) fit known long =
      ap₂ (λ x y. Some x ∷ y)
      (ap (λ l. text_of l (place_in texts k v)) (sym fit.0) ∙ sym (text-at v (get_or texts k []) known.0))
      (told-coded (suc k) lists c fit.1 known.1 (omega arith))

  -- and they are there
  pub has-texts : (k : ℕ) (lists : List (List Text)) (c : Cell Text) → Fits texts k lists
      → AreKnown (has_text texts) k c → length c ≤ length lists → HasTexts lists (coded_cell (place_in texts) k c)
  has-texts k lists [] fit known long = tt
  has-texts k [] (e ∷ c) fit known long = absurd (omega arith)
  has-texts k (list ∷ lists) (None ∷ c) fit known long = has-texts (suc k) lists c fit.1 known (omega arith)
  has-texts k (list ∷ lists) (Some v ∷ c) fit known long = (
    subst (λ l. place_in texts k v < length l) fit.0 (any-within _ (get_or texts k []) known.0),
    has-texts (suc k) lists c fit.1 known.1 (omega arith),
  )

  abbrev pub IsKnown : ℕ → Cell Text → Type 0
  IsKnown n c = AreKnown (has_text texts) 0 c × (length c ≡ n)

  pub told-all : (cells : List (Cell Text)) (n : ℕ) → n ≡ length texts → AllByRecursion (IsKnown n) cells
      → map (decoded_cell texts) (map (coded_cell (place_in texts) 0) cells) ≡ cells
  told-all [] n e h = refl
  told-all (c ∷ cells) n e h = ap₂ (λ x xs. x ∷ xs) (told-coded 0 texts c (fits texts) h.0.0 (omega (arith, h.0.1, e)))
      (told-all cells n e h.1)

  pub has-all : (cells : List (Cell Text)) (n : ℕ) → n ≡ length texts → AllByRecursion (IsKnown n) cells
      → AllByRecursion (HasTexts texts) (map (coded_cell (place_in texts) 0) cells)
  has-all [] n e h = tt
  has-all (c ∷ cells) n e h = (has-texts 0 texts c (fits texts) h.0.0 (omega (arith, h.0.1, e)), has-all cells n e h.1)

module _ (texts : List (List Text)) (measures : ℕ) where
  some-coded : (rows : List (Row Text))
      → agg_some measures (map (coded_row (place_in texts)) rows) ≡ agg_some measures rows
  some-coded [] = refl
  some-coded (r ∷ rows) = ap (λ a. Some a) (agg_of-coded (place_in texts) measures (r ∷ rows))

  -- what the coded cell covers among coded rows comes to the same
  pub total-coded : (rows : List (Row Text)) (c : Cell Text) → RowsAreKnown (has_text texts) rows
      → AreKnown (has_text texts) 0 c
      → agg_at (eq_by_cmp nat_cmp) measures (map (coded_row (place_in texts)) rows) (coded_cell (place_in texts) 0 c)
      ≡ agg_at text_eq measures rows c
  total-coded rows c h known =
      ap (agg_some measures) (cov-coded text_equality code_equality (places-apart texts) rows c h known)
      ∙ some-coded (cov text_eq rows c)

  covered-known : (rows : List (Row Text)) (c : Cell Text) (r : Row Text) (rest : List (Row Text))
      → RowsAreKnown (has_text texts) rows → cov text_eq rows c ≡ r ∷ rest → AreKnown (has_text texts) 0 c
  covered-known [] c r rest h e = cc
  covered-known (q ∷ rows) c r rest h e = go (covers text_eq c q) refl (covered-known rows c r rest h.1)
    where
      go : (b : Bool) → covers text_eq c q ≡ b → (cov text_eq rows c ≡ r ∷ rest → AreKnown (has_text texts) 0 c)
          → AreKnown (has_text texts) 0 c
      go true t more = known-below text_equality (has_text texts) 0 c (cell_of q.tuple) t h.0
      go false t more = more (rw t at e)

  -- a cell that isn't known covers nothing
  pub total-missing : (rows : List (Row Text)) (c : Cell Text) → RowsAreKnown (has_text texts) rows
      → (AreKnown (has_text texts) 0 c → ⊥) → agg_at text_eq measures rows c ≡ None
  total-missing rows c h unknown = go (cov text_eq rows c) refl
    where
      go : (covered : List (Row Text)) → cov text_eq rows c ≡ covered → agg_some measures covered ≡ None
      go [] e = refl
      go (r ∷ rest) e = absurd (unknown (covered-known rows c r rest h e))
