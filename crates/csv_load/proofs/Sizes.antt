-- How many bytes texts and records have.
use Rattle.std.proofs.Common.{◌≡◌, ◌<◌, ◌≤◌, ◌+◌, ◌-◌, ◌∙◌, ℕ, zero, suc, List, [], ◌∷◌, ◌++◌, length, get_or, set, ap₂, ◌≢◌, refl, sym, ap}
use Rattle.std.proofs.Common.{arith, map, take, drop}
use Rattle.std.specs.Prelude.{slice_range}
use Rattle.std.specs.List.{AllByRecursion, range_with_len}
use Rattle.std.proofs.lemmas.List.{get_or-set_other}
use Rattle.std.proofs.lemmas.List.FromFn.{map-range_with_len_more}
use Rattle.std.proofs.lemmas.Bool.Decides.{nat_tests}
use Rattle.csv_load.specs.FieldTexts.{IsCut, start_at, text_between, texts_of}
use Rattle.text_lines.specs.Records.{bytes_in}
use Rattle.csv_load.specs.Columns.{fields_at}
use Rattle.csv_load.proofs.Ranges.{length-range, range-more}
use Rattle.text_lines.proofs.CallerLemmas.{bytes-append, bytes-push}

start-suc : (ends : List ℕ) (n : ℕ) → start_at ends (suc n) ≡ get_or ends n 0
start-suc ends n = grind (arith, nat_tests)

-- the texts of a buffer have its bytes
size-prefix : (ends bytes : List ℕ) (n : ℕ) → IsCut ends bytes → n ≤ length ends
    → bytes_in (map (text_between ends bytes) (range_with_len 0 n)) ≡ start_at ends n
size-prefix ends bytes zero cut le = refl
size-prefix ends bytes (suc n) cut le =
    let before : bytes_in (map (text_between ends bytes) (range_with_len 0 n)) ≡ start_at ends n
    = size-prefix ends bytes n cut (omega arith) in
    let place : suc n ≡ n + 1 = omega arith in
    let here : length (text_between ends bytes n) ≡ get_or ends n 0 - start_at ends n
    = length-range bytes (start_at ends n) (get_or ends n 0) (cut.rise n (omega arith))
    (cut.within n (omega arith)) in
    ap (λ (k : ℕ). bytes_in (map (text_between ends bytes) (range_with_len 0 k))) place
    ∙ ap bytes_in (map-range_with_len_more (text_between ends bytes) 0 n n (omega arith))
    ∙ bytes-push (map (text_between ends bytes) (range_with_len 0 n)) (text_between ends bytes n)
    ∙ omega (arith, before, here, cut.rise n (omega arith)) ∙ sym (start-suc ends n)

pub size-texts : (ends bytes : List ℕ) → IsCut ends bytes → bytes_in (texts_of ends bytes) ≡ length bytes
size-texts ends bytes cut = size-prefix ends bytes (length ends) cut (omega arith) ∙ cut.last

taken : (n : ℕ) (xs : List (List ℕ)) → bytes_in (take n xs) ≤ bytes_in xs
taken zero xs = omega arith
taken (suc n) [] = omega arith
taken (suc n) (x ∷ xs) = omega (arith, taken n xs)

dropped : (n : ℕ) (xs : List (List ℕ)) → bytes_in (drop n xs) ≤ bytes_in xs
dropped zero xs = omega arith
dropped (suc n) [] = omega arith
dropped (suc n) (x ∷ xs) = omega (arith, dropped n xs)

bytes-part : (fields : List (List ℕ)) (i j : ℕ) → bytes_in (slice_range fields i j) ≤ bytes_in fields
bytes-part fields i j = omega (arith, taken (j - i) (drop i fields), dropped i fields)

-- a text more than those before, of which the fields have room
pub room-more : (texts before fields : List (List ℕ)) (i j k : ℕ) → i < j → j ≤ length fields
    → texts ++ slice_range fields i j ≡ before ++ slice_range fields k j
    → bytes_in texts + length (get_or fields i []) ≤ bytes_in before + bytes_in fields
room-more texts before fields i j k low high same =
    omega (
      arith,
      ap bytes_in same,
      bytes-append texts (slice_range fields i j),
      bytes-append before (slice_range fields k j),
      bytes-part fields k j,
      ap bytes_in (range-more fields i j [] low high),
    )

pub room-all : (texts before fields : List (List ℕ)) (k j : ℕ) → texts ≡ before ++ slice_range fields k j
    → bytes_in texts ≤ bytes_in before + bytes_in fields
room-all texts before fields k j same
    = omega (arith, ap bytes_in same, bytes-append before (slice_range fields k j), bytes-part fields k j)

-- no place stands twice
abbrev pub Apart : List ℕ → Type 0
Apart [] = Unit {0}
Apart (p ∷ ps) = AllByRecursion (λ q. q ≢ p) ps × Apart ps

without-field : (fields : List (List ℕ)) (p : ℕ)
    → bytes_in (set fields p []) + length (get_or fields p []) ≡ bytes_in fields
without-field [] p = refl
without-field (x ∷ xs) zero = omega arith
without-field (x ∷ xs) (suc p) = omega (arith, without-field xs p)

others-at : (ps : List ℕ) (fields : List (List ℕ)) (p : ℕ) → AllByRecursion (λ q. q ≢ p) ps
    → fields_at ps (set fields p []) ≡ fields_at ps fields
others-at [] fields p h = refl
others-at (q ∷ ps) fields p h
    = ap₂ (λ (f : List ℕ) (fs : List (List ℕ)). f ∷ fs) (get_or-set_other fields p q [] [] h.0)
    (others-at ps fields p h.1)

-- the fields at places of which none stands twice have no more bytes than all
pub apart-within : (places : List ℕ) (fields : List (List ℕ)) → Apart places
    → bytes_in (fields_at places fields) ≤ bytes_in fields
apart-within [] fields a = omega arith
apart-within (p ∷ ps) fields a
    = omega (
      arith,
      without-field fields p,
      apart-within ps (set fields p []) a.1,
      ap bytes_in (others-at ps fields p a.0),
    )
