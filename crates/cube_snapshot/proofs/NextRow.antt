-- A row that comes after others.
use Rattle.std.proofs.Common.{◌≡◌, ◌<◌, ℕ, List, [], ◌∷◌, ◌++◌, Some, None, false, get_or, length, map, nat_eq, refl, ap, subst, arith}
use Rattle.std.proofs.Common.{length-append}
use Rattle.std.specs.List.{AllByRecursion, IsDistinct}
use Rattle.std.proofs.lemmas.List.Elements.{All-push}
use Rattle.std.proofs.lemmas.List.{get_or_at}
use Rattle.std.proofs.lemmas.Map.Keys.{IsDistinct-head, IsDistinct-tail}
use Rattle.base_table.specs.Places.{has_id, values_of}
use Rattle.cube_defs.specs.Cell.{Cell}
use Rattle.cube_defs.specs.Rows.{Row}
use Rattle.cube_defs.specs.Text.{Text}
use Rattle.value_dict.specs.Decoded.{AreCodes, RowsAreCodes}
use Rattle.cube_snapshot.specs.Readers.{MayBeRows, MayCome}

-- codes of one dimension after the other
pub codes_push : (lists : List (List Text)) (codes : List ℕ) (code : ℕ) → AreCodes lists codes
    → length codes < length lists → code < length (get_or lists (length codes) []) → AreCodes lists (codes ++ code ∷ [])
codes_push [] [] code are lt h = absurd (omega arith)
codes_push (texts ∷ lists) [] code are lt h = (h, tt)
codes_push [] (c ∷ codes) code are lt h = absurd are
codes_push (texts ∷ lists) (c ∷ codes) code are lt h = (are.0, codes_push lists codes code are.1 (omega arith) h)

pub code_after : (lists : List (List Text)) (codes : List ℕ) (code : ℕ) (more : List ℕ)
    → AreCodes lists (codes ++ code ∷ more) → code < length (get_or lists (length codes) [])
code_after [] [] code more are = absurd are
code_after (texts ∷ lists) [] code more are = are.0
code_after [] (c ∷ codes) code more are = absurd are
code_after (texts ∷ lists) (c ∷ codes) code more are = code_after lists codes code more are.1

pub values_push : (cell : Cell ℕ) (code : ℕ) → values_of (cell ++ Some code ∷ []) ≡ values_of cell ++ code ∷ []
values_push [] code = refl
values_push (None ∷ cell) code = values_push cell code
values_push (Some c ∷ cell) code = ap (λ (l : List ℕ). c ∷ l) (values_push cell code)

id_after : (P : ℕ → Type 0) (rows : List (Row ℕ)) (r : Row ℕ) (more : List (Row ℕ))
    → AllByRecursion P (map (λ (row : Row ℕ). row.id) (rows ++ r ∷ more)) → P r.id
id_after P [] r more h = h.0
id_after P (x ∷ rows) r more h = id_after P rows r more h.1

new_id : (rows : List (Row ℕ)) (r : Row ℕ) (more : List (Row ℕ))
    → IsDistinct nat_eq (map (λ (row : Row ℕ). row.id) (rows ++ r ∷ more)) → has_id rows r.id ≡ false
new_id [] r more h = refl
new_id (x ∷ rows) r more h =
    let differs : nat_eq x.id r.id ≡ false
    = id_after (λ (other : ℕ). nat_eq x.id other ≡ false) rows r more
    (IsDistinct-head nat_eq x.id (map (λ (row : Row ℕ). row.id) (rows ++ r ∷ more)) h) in
    rw differs (new_id rows r more (IsDistinct-tail nat_eq x.id (map (λ (row : Row ℕ). row.id) (rows ++ r ∷ more)) h))

module _ (lists : List (List Text)) (max : ℕ) (rows : List (Row ℕ)) (r : Row ℕ) where
  pub may_come : (more : List (Row ℕ)) → MayBeRows lists max (rows ++ r ∷ more) → MayCome lists max rows r
  may_come more may = record {
    known = subst (λ (row : Row ℕ). AreCodes lists row.tuple) (get_or_at rows r more r (length rows) refl)
        (may.known (length rows) r (omega (arith, length-append rows (r ∷ more))));
    new = new_id rows r more may.ids;
    room = omega (arith, may.few, length-append rows (r ∷ more));
  }

  pub known_push : RowsAreCodes lists rows → AreCodes lists r.tuple → RowsAreCodes lists (rows ++ r ∷ [])
  known_push known are = All-push (λ (row : Row ℕ). AreCodes lists row.tuple) rows r known are
