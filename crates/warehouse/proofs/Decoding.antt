-- Codes and the texts that they stand for.
use Rattle.std.proofs.Common.{◌≡◌, ◌<◌, ◌+◌, ◌∙◌, ℕ, suc, List, [], ◌∷◌, Bool, true, false, Some, length, get_or, filter, map, refl, ap}
use Rattle.std.proofs.Common.{ap₂, arith, position}
use Rattle.std.specs.List.{All, AllByRecursion, IsDistinct, list_any, position_or_len}
use Rattle.std.specs.Str.{bytes_eq}
use Rattle.std.proofs.lemmas.List.Elements.{All-cons, All-head, All-nil, All-tail}
use Rattle.std.proofs.lemmas.List.Folds.{list_any_at}
use Rattle.cube_defs.specs.Cell.{cell_of}
use Rattle.cube_defs.specs.Rows.{Row}
use Rattle.cube_defs.specs.Text.{Text}
use Rattle.cube_laws.specs.Recoding.{AreKnown, coded_row, coded_tuple}
use Rattle.csv_load.specs.Batch.{IsValue}
use Rattle.value_dict.proofs.CallerLemmas.{code_of_place, same_bytes}
use Rattle.warehouse.specs.State.{ids_of}
use Rattle.value_dict.specs.Decoded.{AreCodes, RowsAreCodes, decoded, decoded_row, has_text, place_in}

pub length-decoded : (lists : List (List Text)) (codes : List ℕ) → AreCodes lists codes
    → length (decoded lists codes) ≡ length codes
length-decoded lists [] are = refl
length-decoded [] (code ∷ codes) are = absurd are
length-decoded (texts ∷ lists) (code ∷ codes) are = ap suc (length-decoded lists codes are.1)

pub values-decoded : (lists : List (List Text)) (codes : List ℕ) → AreCodes lists codes → All (All IsValue) lists
    → All IsValue (decoded lists codes)
values-decoded lists [] are values = All-nil IsValue
values-decoded [] (code ∷ codes) are values = absurd are
values-decoded (texts ∷ lists) (code ∷ codes) are values =
    All-cons IsValue (get_or texts code []) (decoded lists codes)
    (All-head (All IsValue) texts lists values code [] are.0)
    (values-decoded lists codes are.1 (All-tail (All IsValue) texts lists values))

-- what has the ids of rows has those of the rows with their texts
pub ids-decoded : (lists : List (List Text)) (rows : List (Row ℕ)) → ids_of (map (decoded_row lists) rows) ≡ ids_of rows
ids-decoded lists [] = refl
ids-decoded lists (row ∷ rows) = ap (λ (ids : List ℕ). row.id ∷ ids) (ids-decoded lists rows)

pub length-rows : (lists : List (List Text)) (rows : List (Row ℕ)) → length (map (decoded_row lists) rows) ≡ length rows
length-rows lists [] = refl
length-rows lists (row ∷ rows) = ap suc (length-rows lists rows)

pub filter-decoded : (p : ℕ → Bool) (lists : List (List Text)) (rows : List (Row ℕ))
    → filter (λ row. p row.id) (map (decoded_row lists) rows) ≡ map (decoded_row lists) (filter (λ row. p row.id) rows)
filter-decoded p lists [] = refl
filter-decoded p lists (row ∷ rows) = go (p row.id) refl (filter-decoded p lists rows)
  where
    go : (b : Bool) → p row.id ≡ b
        → filter (λ r. p r.id) (map (decoded_row lists) rows) ≡ map (decoded_row lists) (filter (λ r. p r.id) rows)
        → filter (λ r. p r.id) (map (decoded_row lists) (row ∷ rows)) ≡ map (decoded_row lists)
        (filter (λ r. p r.id) (row ∷ rows))
    go true e rest = rw e (ap (λ (rs : List (Row Text)). decoded_row lists row ∷ rs) rest)
    go false e rest = rw e rest

-- the place of the text of a code is the code
place-of-code : (texts : List Text) (code : ℕ) → code < length texts → IsDistinct bytes_eq texts
    → position_or_len (bytes_eq (get_or texts code [])) texts ≡ code
place-of-code texts code lt distinct = by (bytes_eq (get_or texts code [])) (code_of_place texts code lt distinct)
  where
    by : (p : Text → Bool) → position p texts ≡ Some code → position_or_len p texts ≡ code
    by p e = grind (arith, e)

next-lists : (all : List (List Text)) (k : ℕ) (texts : List Text) (lists : List (List Text))
    → ((i : ℕ) → get_or all (k + i) [] ≡ get_or (texts ∷ lists) i []) → (i : ℕ)
    → get_or all (suc k + i) [] ≡ get_or lists i []
next-lists all k texts lists same i = let e : suc k + i ≡ k + suc i = omega arith in
    ap (λ (n : ℕ). get_or all n []) e ∙ same (suc i)

this-list : (all : List (List Text)) (k : ℕ) (texts : List Text) (lists : List (List Text))
    → ((i : ℕ) → get_or all (k + i) [] ≡ get_or (texts ∷ lists) i []) → get_or all k [] ≡ texts
this-list all k texts lists same = let e : k ≡ k + 0 = omega arith in ap (λ (n : ℕ). get_or all n []) e ∙ same 0

-- decoded codes, coded again
coded-back : (all : List (List Text)) (k : ℕ) (lists : List (List Text)) (codes : List ℕ)
    → ((i : ℕ) → get_or all (k + i) [] ≡ get_or lists i []) → AreCodes lists codes → All (IsDistinct bytes_eq) lists
    → coded_tuple (place_in all) k (decoded lists codes) ≡ codes
coded-back all k lists [] same are distinct = refl
coded-back all k [] (code ∷ codes) same are distinct = absurd are
coded-back all k (texts ∷ lists) (code ∷ codes) same are distinct =
    ap₂ (λ (n : ℕ) (ns : List ℕ). n ∷ ns)
    (ap (λ (ts : List Text). position_or_len (bytes_eq (get_or texts code [])) ts) (this-list all k texts lists same)
    ∙ place-of-code texts code are.0 (All-head (IsDistinct bytes_eq) texts lists distinct))
    (coded-back all (suc k) lists codes (next-lists all k texts lists same) are.1
    (All-tail (IsDistinct bytes_eq) texts lists distinct))

pub rows-back : (lists : List (List Text)) (rows : List (Row ℕ)) → RowsAreCodes lists rows
    → All (IsDistinct bytes_eq) lists → map (coded_row (place_in lists)) (map (decoded_row lists) rows) ≡ rows
rows-back lists [] are distinct = refl
rows-back lists (row ∷ rows) are distinct =
    ap₂ (λ (r : Row ℕ) (rs : List (Row ℕ)). r ∷ rs)
    (ap (λ (tuple : List ℕ). let r : Row ℕ = record { id = row.id; tuple = tuple; amounts = row.amounts } in r)
    (coded-back lists 0 lists row.tuple (λ i. let e : 0 + i ≡ i = omega arith in ap (λ (n : ℕ). get_or lists n []) e)
    (All-head (λ (r : Row ℕ). AreCodes lists r.tuple) row rows are) distinct))
    (rows-back lists rows (All-tail (λ (r : Row ℕ). AreCodes lists r.tuple) row rows are) distinct)

-- the texts of codes are known
known-from : (all : List (List Text)) (k : ℕ) (lists : List (List Text)) (codes : List ℕ)
    → ((i : ℕ) → get_or all (k + i) [] ≡ get_or lists i []) → AreCodes lists codes
    → AreKnown (has_text all) k (cell_of (decoded lists codes))
known-from all k lists [] same are = tt
known-from all k [] (code ∷ codes) same are = absurd are
known-from all k (texts ∷ lists) (code ∷ codes) same are = (
  ap (λ (ts : List Text). list_any (bytes_eq (get_or texts code [])) ts) (this-list all k texts lists same)
      ∙ list_any_at (bytes_eq (get_or texts code [])) texts code [] are.0 (same_bytes (get_or texts code [])),
  known-from all (suc k) lists codes (next-lists all k texts lists same) are.1,
)

pub rows-known : (lists : List (List Text)) (rows : List (Row ℕ)) → RowsAreCodes lists rows
    → AllByRecursion (λ row. AreKnown (has_text lists) 0 (cell_of row.tuple)) (map (decoded_row lists) rows)
rows-known lists [] are = tt
rows-known lists (row ∷ rows) are = (
  known-from lists 0 lists row.tuple (λ i. let e : 0 + i ≡ i = omega arith in ap (λ (n : ℕ). get_or lists n []) e)
      (All-head (λ (r : Row ℕ). AreCodes lists r.tuple) row rows are),
  rows-known lists rows (All-tail (λ (r : Row ℕ). AreCodes lists r.tuple) row rows are),
)
