-- Rows and stores with one dimension more, or with the first dimensions alone.
use Rattle.std.proofs.Common.{◌≡◌, ℕ, ℤ, zero, suc, ◌+◌, ◌*◌, ◌<◌, ◌≤◌, Bool, List, [], ◌∷◌, ◌++◌, Option, Some, None, length, take, drop}
use Rattle.std.proofs.Common.{map, get_or, refl, ap, ap₂, sym, ◌∙◌, subst, arith, length-append, true, false, nat_eq}
use Rattle.std.specs.List.{All}
use Rattle.std.specs.Prelude.{option_map}
use Rattle.std.proofs.lemmas.List.{drop_at, get_or-map, length-map, length-take-le, take-append-le, take-map, take-take, take_all, take_at}
use Rattle.std.proofs.lemmas.List.Elements.{All-cons, All-head, All-nil, All-push, All-tail, All-take}
use Rattle.std.proofs.lemmas.Simd.{map-map}
use Rattle.cube_defs.specs.Cell.{cell_of}
use Rattle.cube_defs.specs.Rows.{Row}
use Rattle.base_table.specs.Last.{last_of, picked}
use Rattle.base_table.specs.Places.{IsRow, narrowed, rows_in, with_code}
use Rattle.base_table.specs.declared.fingerprints.Fingerprinter.{Fingerprinter}
use Rattle.base_table.specs.Store.{AreLast, IsMarked, IsStore, fingerprint, id_of, longer_lines, placed, print_of, rows_from, shorter_lines}
use Rattle.base_table.proofs.Columns.{long_enough, one_line, picked-map, rest_len, same_parts, same_row}

-- a row more or less wide
pub row-longer : (n m code : ℕ) (row : Row ℕ) → code < 4000000 → IsRow n m row → IsRow (n + 1) m (with_code code row)
row-longer n m code row small r = record {
  id = r.id;
  tuple = length-append row.tuple (code ∷ []) ∙ ap (λ k. k + 1) r.tuple;
  codes = All-push (λ code. code < 4000000) row.tuple code r.codes small;
  amounts = r.amounts;
  small = r.small;
}

pub row-shorter : (n m v : ℕ) (row : Row ℕ) → v ≤ n → IsRow n m row → IsRow v m (narrowed v row)
row-shorter n m v row le r = record {
  id = r.id;
  tuple = length-take-le v row.tuple (omega (arith, r.tuple));
  codes = All-take (λ code. code < 4000000) v row.tuple r.codes;
  amounts = r.amounts;
  small = r.small;
}

same_tuple : (row : Row ℕ) (t : List ℕ) → t ≡ row.tuple → ◌≡◌ {A = Row ℕ} (record row { tuple = t }) row
same_tuple row t e = λ j. record { id = row.id; tuple = e j; amounts = row.amounts }

-- what holds of all rows, row by row
pub All-mapped : (P Q : Row ℕ → Type 0) (f : Row ℕ → Row ℕ) → ((row : Row ℕ) → P row → Q (f row))
    → (rows : List (Row ℕ)) → All P rows → All Q (map f rows)
All-mapped P Q f g [] h = All-nil Q
All-mapped P Q f g (row ∷ rows) h
    = All-cons Q (f row) (map f rows) (g row (All-head P row rows h)) (All-mapped P Q f g rows (All-tail P row rows h))

pub map-all : {B : Type 0} (P : Row ℕ → Type 0) (f g : Row ℕ → B) → ((row : Row ℕ) → P row → f row ≡ g row)
    → (rows : List (Row ℕ)) → All P rows → map f rows ≡ map g rows
map-all P f g e [] h = refl
map-all P f g e (row ∷ rows) h
    = ap₂ (λ x l. x ∷ l) (e row (All-head P row rows h)) (map-all P f g e rows (All-tail P row rows h))

pub map-none : (rows : List (Row ℕ)) → map (λ row. row) rows ≡ rows
map-none [] = refl
map-none (row ∷ rows) = ap (λ l. row ∷ l) (map-none rows)

-- rows whose codes are all among the first
pub narrowed-all : (n m : ℕ) (rows : List (Row ℕ)) → All (IsRow n m) rows → map (narrowed n) rows ≡ rows
narrowed-all n m rows h =
    map-all (IsRow n m) (narrowed n) (λ row. row)
    (λ row r. same_tuple row (take n row.tuple) (take_all n row.tuple (omega (arith, r.tuple)))) rows h
    ∙ map-none rows

-- a code after the first isn't seen among these
pub narrowed-longer : (n m v code : ℕ) (rows : List (Row ℕ)) → v ≤ n → All (IsRow n m) rows
    → map (narrowed v) (map (with_code code) rows) ≡ map (narrowed v) rows
narrowed-longer n m v code rows le h =
    map-map (narrowed v) (with_code code) rows
    ∙ map-all (IsRow n m) (λ row. narrowed v (with_code code row)) (narrowed v)
    (λ row r. λ j. record {
      id = row.id;
      tuple = take-append-le v row.tuple (code ∷ []) (omega (arith, le, r.tuple)) j;
      amounts = row.amounts;
    }) rows h

cells-shorter : (k v : ℕ) (t : List ℕ) → k ≤ v → take k (cell_of (take v t)) ≡ take k (cell_of t)
cells-shorter k v t le = take-map (λ c. Some c) k (take v t) ∙ ap (map (λ c. Some c)) (take-take k v t le)
    ∙ sym (take-map (λ c. Some c) k t)

cells-longer : (k code : ℕ) (t : List ℕ) → k ≤ length t → take k (cell_of (t ++ code ∷ [])) ≡ take k (cell_of t)
cells-longer k code t le = take-map (λ c. Some c) k (t ++ code ∷ [])
    ∙ ap (map (λ c. Some c)) (take-append-le k t (code ∷ []) le) ∙ sym (take-map (λ c. Some c) k t)

-- the numbers of tuples stay
prints-longer : (n m : ℕ) (k : Fingerprinter) (code : ℕ) (rows : List (Row ℕ)) → k.dims ≤ n → All (IsRow n m) rows
    → map (print_of k) (map (with_code code) rows) ≡ map (print_of k) rows
prints-longer n m k code rows le h =
    map-map (print_of k) (with_code code) rows
    ∙ map-all (IsRow n m) (λ row. print_of k (with_code code row)) (print_of k)
    (λ row r. ap (fingerprint k.multiplier) (cells-longer k.dims code row.tuple (omega (arith, le, r.tuple)))) rows
    h

prints-shorter : (n m : ℕ) (k : Fingerprinter) (v : ℕ) (rows : List (Row ℕ)) → k.dims ≤ v → All (IsRow n m) rows
    → map (print_of k) (map (narrowed v) rows) ≡ map (print_of k) rows
prints-shorter n m k v rows le h =
    map-map (print_of k) (narrowed v) rows
    ∙ map-all (IsRow n m) (λ row. print_of k (narrowed v row)) (print_of k)
    (λ row r. ap (fingerprint k.multiplier) (cells-shorter k.dims v row.tuple le)) rows h

length-longer : {A : Type 0} (n : ℕ) (x : A) (l : ℕ) (cells : List A) → length cells ≡ l * n
    → length (longer_lines n x l cells) ≡ l * (n + 1)
length-longer n x zero cells h = omega arith
length-longer n x (suc l) cells h =
    let one : length (take n cells) ≡ n = length-take-le n cells (long_enough n l cells h) in
    let rest : length (longer_lines n x l (drop n cells)) ≡ l * (n + 1)
    = length-longer n x l (drop n cells) (rest_len n l cells h) in
    omega (
      arith,
      length-append (take n cells ++ x ∷ []) (longer_lines n x l (drop n cells)),
      length-append (take n cells) (x ∷ []),
      one,
      rest,
      one_line l (n + 1),
    )

length-shorter : {A : Type 0} (n v l : ℕ) (cells : List A) → v ≤ n → length cells ≡ l * n
    → length (shorter_lines n v l cells) ≡ l * v
length-shorter n v zero cells le h = omega arith
length-shorter n v (suc l) cells le h =
    let enough : n ≤ length cells = long_enough n l cells h in
    let one : length (take v cells) ≡ v = length-take-le v cells (omega arith) in
    let rest : length (shorter_lines n v l (drop n cells)) ≡ l * v
    = length-shorter n v l (drop n cells) le (rest_len n l cells h) in
    omega (arith, length-append (take v cells) (shorter_lines n v l (drop n cells)), one, rest, one_line l v)

module _ (n m : ℕ) where
  pub rows-longer : (code : ℕ) (ids codes : List ℕ) (amounts : List ℤ) → length codes ≡ length ids * n
      → rows_from (n + 1) m ids (longer_lines n code (length ids) codes) amounts ≡ map (with_code code)
      (rows_from n m ids codes amounts)
  rows-longer code [] codes amounts h = refl
  rows-longer code (id ∷ ids) codes amounts h =
      let line = take n codes ++ code ∷ [] in
      let rest = longer_lines n code (length ids) (drop n codes) in
      let len : length line ≡ n + 1 = length-append (take n codes) (code ∷ [])
      ∙ ap (λ k. k + 1) (length-take-le n codes (long_enough n (length ids) codes h)) in
      same_row (n + 1) m id (take_at line rest (n + 1) len) refl
      (same_parts (n + 1) m ids (drop_at line rest (n + 1) len) refl
      ∙ rows-longer code ids (drop n codes) (drop m amounts) (rest_len n (length ids) codes h))

  pub rows-shorter : (v : ℕ) (ids codes : List ℕ) (amounts : List ℤ) → v ≤ n → length codes ≡ length ids * n
      → rows_from v m ids (shorter_lines n v (length ids) codes) amounts ≡ map (narrowed v)
      (rows_from n m ids codes amounts)
  rows-shorter v [] codes amounts le h = refl
  rows-shorter v (id ∷ ids) codes amounts le h =
      let line = take v codes in
      let rest = shorter_lines n v (length ids) (drop n codes) in
      let enough : n ≤ length codes = long_enough n (length ids) codes h in
      let len : length line ≡ v = length-take-le v codes (omega arith) in
      same_row v m id (take_at line rest v len ∙ sym (take-take v n codes le)) refl
      (same_parts v m ids (drop_at line rest v len) refl
      ∙ rows-shorter v ids (drop n codes) (drop m amounts) le (rest_len n (length ids) codes h))

  -- the store with one dimension more
  pub store_longer : (k : Fingerprinter) (t code : ℕ) (ids prints codes : List ℕ) (amounts : List ℤ) (room more : ℕ)
      → n < 16 → code < 4000000 → room ≤ more → IsStore n m k t ids prints codes amounts room
      → IsStore (n + 1) m k t ids prints (longer_lines n code (length ids) codes) amounts more
  store_longer k t code ids prints codes amounts room more few small le s =
      let rows = rows_from n m ids codes amounts in
      let new : rows_from (n + 1) m ids (longer_lines n code (length ids) codes) amounts ≡ map (with_code code) rows
      = rows-longer code ids codes amounts s.codes_len in
      record {
        few_dims = omega (arith, few);
        few_measures = s.few_measures;
        codes_len = length-longer n code (length ids) codes s.codes_len;
        amounts_len = s.amounts_len;
        printer_le = s.printer_le;
        then_le = omega (arith, s.then_le);
        room_for_all = omega (arith, s.room_for_all, le);
        prints_are = s.prints_are ∙ sym (prints-longer n m k code rows (omega (arith, s.printer_le, s.then_le)) s.each)
            ∙ ap (map (print_of k)) (sym new);
        each = subst (All (IsRow (n + 1) m)) (sym new)
            (All-mapped (IsRow n m) (IsRow (n + 1) m) (with_code code)
            (λ row r. row-longer n m code row small r) rows s.each);
      }

  -- the store with the dimensions alone that there were then
  pub store_shorter : (k : Fingerprinter) (t : ℕ) (ids prints codes : List ℕ) (amounts : List ℤ) (room more : ℕ)
      → room ≤ more → IsStore n m k t ids prints codes amounts room
      → IsStore t m k t ids prints (shorter_lines n t (length ids) codes) amounts more
  store_shorter k t ids prints codes amounts room more le s =
      let rows = rows_from n m ids codes amounts in
      let new : rows_from t m ids (shorter_lines n t (length ids) codes) amounts ≡ map (narrowed t) rows
      = rows-shorter t ids codes amounts s.then_le s.codes_len in
      record {
        few_dims = omega (arith, s.then_le, s.few_dims);
        few_measures = s.few_measures;
        codes_len = length-shorter n t (length ids) codes s.then_le s.codes_len;
        amounts_len = s.amounts_len;
        printer_le = s.printer_le;
        then_le = omega arith;
        room_for_all = omega (arith, s.room_for_all, le);
        prints_are = s.prints_are ∙ sym (prints-shorter n m k t rows s.printer_le s.each)
            ∙ ap (map (print_of k)) (sym new);
        each = subst (All (IsRow t m)) (sym new)
            (All-mapped (IsRow n m) (IsRow t m) (narrowed t) (λ row r. row-shorter n m t row s.then_le r) rows s.each);
      }

-- rows under the same ids
pub ids_mapped : (f : Row ℕ → Row ℕ) → ((row : Row ℕ) → (f row).id ≡ row.id) → (rows : List (Row ℕ))
    → map id_of (map f rows) ≡ map id_of rows
ids_mapped f same [] = refl
ids_mapped f same (row ∷ rows) = ap₂ (λ x l. x ∷ l) (same row) (ids_mapped f same rows)

pub last_mapped : (f : Row ℕ → Row ℕ) → ((row : Row ℕ) → (f row).id ≡ row.id) → (here : List Bool) (rows : List (Row ℕ))
    → length here ≤ length rows → AreLast here rows → AreLast here (map f rows)
last_mapped f same here rows le a = record {
  last = λ k d lt t.
      let at : (get_or (map f rows) k d).id ≡ (get_or rows k d).id
      = ap (λ (r : Row ℕ). r.id) (get_or-map f rows k d d (omega arith)) ∙ same (get_or rows k d) in
      ap₂ (λ (n : ℕ) (l : List ℕ). last_of (nat_eq n) l) at (ids_mapped f same rows) ∙ a.last k d lt t;
}

pub marked_mapped : (f : Row ℕ → Row ℕ) → ((row : Row ℕ) → (f row).id ≡ row.id)
    → (here : List Bool) (rows : List (Row ℕ)) (count max : ℕ) → length here ≤ length rows
    → IsMarked here rows count max → IsMarked here (map f rows) count max
marked_mapped f same here rows count max le h = record {
  last = last_mapped f same here rows le h.last;
  count_is = h.count_is ∙ sym (length-map (picked here rows) f) ∙ ap length (sym (picked-map f here rows));
  few = h.few;
}

-- the places of rows, each of which is changed
pub placed_mapped : (f : Row ℕ → Row ℕ) (here : List Bool) (rows : List (Row ℕ))
    → placed here (map f rows) ≡ map (option_map f) (placed here rows)
placed_mapped f [] rows = refl
placed_mapped f (b ∷ here) [] = refl
placed_mapped f (true ∷ here) (row ∷ rows) = ap (λ l. Some (f row) ∷ l) (placed_mapped f here rows)
placed_mapped f (false ∷ here) (row ∷ rows) = ap (λ l. None ∷ l) (placed_mapped f here rows)

pub rows_in_mapped : (f : Row ℕ → Row ℕ) (places : List (Option (Row ℕ)))
    → rows_in (map (option_map f) places) ≡ map f (rows_in places)
rows_in_mapped f [] = refl
rows_in_mapped f (None ∷ places) = rows_in_mapped f places
rows_in_mapped f (Some row ∷ places) = ap (λ l. f row ∷ l) (rows_in_mapped f places)
