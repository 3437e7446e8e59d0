-- Rows whose codes and amounts lie one after another.
use Rattle.std.proofs.Common.{◌≡◌, ℕ, ℤ, zero, suc, ◌+◌, ◌*◌, ◌<◌, ◌≤◌, Bool, true, false, List, [], ◌∷◌, ◌++◌, Option, Some, None, length}
use Rattle.std.proofs.Common.{take, drop, map, get_or, refl, ap, ap₂, sym, ◌∙◌, subst, arith, is_some, length-append, length-drop}
use Rattle.std.proofs.Common.{true≢false, append_assoc}
use Rattle.std.specs.List.{All}
use Rattle.std.proofs.lemmas.List.{take-take, take-append-le, drop-append-le, drop-take, drop-drop, take_at, drop_at, take_all, length-map}
use Rattle.std.proofs.lemmas.List.{length-take-le, nil_from_length, map-append, take-map, map_more}
use Rattle.std.proofs.lemmas.List.Elements.{All-head, All-tail, All-cons, All-nil, All-push, All-take}
use Rattle.std.proofs.lemmas.Nat.{mul-le, row_fits}
use Rattle.cell_core.specs.Entry.{IsSmall, value_in}
use Rattle.cell_core.specs.declared.cell.Entry.{Entry}
use Rattle.cell_core.specs.declared.cell.Entry.TheVariants.{Any, Is}
use Rattle.cube_defs.specs.Cell.{Cell, cell_of}
use Rattle.cube_defs.specs.Rows.{Row}
use Rattle.base_table.specs.Last.{picked}
use Rattle.base_table.specs.Places.{IsRow, row_of, values_of}
use Rattle.base_table.proofs.Placed.{picked-le}
use Rattle.base_table.specs.declared.fingerprints.Fingerprinter.{Fingerprinter}
use Rattle.base_table.specs.Store.{IsStore, StoredRows, code_or_any, id_of, picked_lines, print_in, print_of, rows_from}

-- the values of a tuple's cell
pub values-codes : (cell : Cell ℕ) → All (λ entry. is_some entry ≡ true) cell → values_of cell ≡ map code_or_any cell
values-codes [] h = refl
values-codes (None ∷ cell) h = absurd (true≢false (sym (h 0 None (omega arith))))
values-codes (Some v ∷ cell) h
    = ap (λ l. v ∷ l) (values-codes cell (All-tail (λ entry. is_some entry ≡ true) (Some v) cell h))

pub cell-values : (cell : Cell ℕ) → All (λ entry. is_some entry ≡ true) cell → cell_of (values_of cell) ≡ cell
cell-values [] h = refl
cell-values (None ∷ cell) h = absurd (true≢false (sym (h 0 None (omega arith))))
cell-values (Some v ∷ cell) h
    = ap (λ l. Some v ∷ l) (cell-values cell (All-tail (λ entry. is_some entry ≡ true) (Some v) cell h))

-- one code more of a cell with values alone
pub codes_more : (was : List ℕ) (cell : Cell ℕ) (i code : ℕ) (e : Option ℕ) → i < length cell → e ≡ get_or cell i None
    → code ≡ code_or_any e
    → was ++ map code_or_any (take i cell) ++ code ∷ [] ≡ was ++ map code_or_any (take (i + 1) cell)
codes_more was cell i code e h at is =
    append_assoc was (map code_or_any (take i cell)) (code ∷ [])
    ∙ ap (λ l. was ++ l) (ap (λ c. map code_or_any (take i cell) ++ c ∷ []) (is ∙ ap code_or_any at)
    ∙ sym (map_more code_or_any cell i None h))

pub small_more : (cell : Cell ℕ) (i code : ℕ) (e : Option ℕ) → i < length cell → e ≡ get_or cell i None
    → code ≡ code_or_any e → code < 4000000
    → All (λ code. code < 4000000) (map code_or_any (take i cell))
    → All (λ code. code < 4000000) (map code_or_any (take (i + 1) cell))
small_more cell i code e h at is small so_far =
    subst (All (λ code. code < 4000000)) (ap (λ c. map code_or_any (take i cell) ++ c ∷ []) (is ∙ ap code_or_any at)
    ∙ sym (map_more code_or_any cell i None h))
    (All-push (λ code. code < 4000000) (map code_or_any (take i cell)) code so_far small)

-- the code of an entry that is a value
pub small_code : (entry : Entry) → IsSmall entry → is_some (value_in entry) ≡ true
    → code_or_any (value_in entry) < 4000000
small_code Any h e = absurd (true≢false (sym e))
small_code (Is code) h e = h

-- marks that pick read-offs pick what they are read from
pub picked-map : {A B : Type 0} (f : A → B) (kept : List Bool) (xs : List A)
    → picked kept (map f xs) ≡ map f (picked kept xs)
picked-map f [] xs = refl
picked-map f (b ∷ kept) [] = refl
picked-map f (true ∷ kept) (x ∷ xs) = ap (λ l. f x ∷ l) (picked-map f kept xs)
picked-map f (false ∷ kept) (x ∷ xs) = picked-map f kept xs

pub All-picked : {A : Type 0} (P : A → Type 0) (kept : List Bool) (xs : List A) → All P xs → All P (picked kept xs)
All-picked P [] xs h = All-nil P
All-picked P (b ∷ kept) [] h = All-nil P
All-picked P (true ∷ kept) (x ∷ xs) h
    = All-cons P x (picked kept xs) (All-head P x xs h) (All-picked P kept xs (All-tail P x xs h))
All-picked P (false ∷ kept) (x ∷ xs) h = All-picked P kept xs (All-tail P x xs h)

plus_one : (l w : ℕ) → l * w + w ≡ (l + 1) * w
plus_one l w = grind arith

pub one_line : (l n : ℕ) → suc l * n ≡ n + l * n
one_line l n = grind arith

module _ {A : Type 0} where
  pub long_enough : (n l : ℕ) (cells : List A) → length cells ≡ suc l * n → n ≤ length cells
  long_enough n l cells h = omega (arith, h, one_line l n)

  pub rest_len : (n l : ℕ) (cells : List A) → length cells ≡ suc l * n → length (drop n cells) ≡ l * n
  rest_len n l cells h = omega (arith, h, one_line l n, length-drop n cells)

  first_line : (n l : ℕ) (cells : List A) → take n (take (suc l * n) cells) ≡ take n cells
  first_line n l cells = take-take n (suc l * n) cells (omega (arith, one_line l n))

  later_lines : (n l : ℕ) (cells : List A) → drop n (take (suc l * n) cells) ≡ take (l * n) (drop n cells)
  later_lines n l cells = ap (λ k. drop n (take k cells)) (one_line l n) ∙ drop-take n (l * n) cells

  deeper : (n k : ℕ) (cells : List A) → drop (k * n) (drop n cells) ≡ drop (suc k * n) cells
  deeper n k cells = drop-drop (k * n) n cells ∙ ap (λ m. drop m cells) (sym (one_line k n))

  no_lines : (n : ℕ) (cells : List A) → drop (0 * n) cells ≡ cells
  no_lines n cells = let none : 0 * n ≡ 0 = omega arith in ap (λ k. drop k cells) none

  pub length-lines : (n : ℕ) (kept : List Bool) {B : Type 0} (xs : List B) (cells : List A) → length kept ≡ length xs
      → length cells ≡ length xs * n → length (picked_lines n kept cells) ≡ length (picked kept xs) * n
  length-lines n [] xs cells e h = omega arith
  length-lines n (b ∷ kept) [] cells e h = absurd (omega arith)
  length-lines n (true ∷ kept) (x ∷ xs) cells e h =
      length-append (take n cells) (picked_lines n kept (drop n cells))
      ∙ ap₂ (λ p q. p + q) (length-take-le n cells (long_enough n (length xs) cells h))
      (length-lines n kept xs (drop n cells) (omega arith) (rest_len n (length xs) cells h))
      ∙ sym (one_line (length (picked kept xs)) n)
  length-lines n (false ∷ kept) (x ∷ xs) cells e h
      = length-lines n kept xs (drop n cells) (omega arith) (rest_len n (length xs) cells h)

module _ (n m : ℕ) where
  pub length-rows : (ids codes : List ℕ) (amounts : List ℤ) → length (rows_from n m ids codes amounts) ≡ length ids
  length-rows [] codes amounts = refl
  length-rows (id ∷ ids) codes amounts = ap suc (length-rows ids (drop n codes) (drop m amounts))

  pub ids-rows : (ids codes : List ℕ) (amounts : List ℤ) → map id_of (rows_from n m ids codes amounts) ≡ ids
  ids-rows [] codes amounts = refl
  ids-rows (id ∷ ids) codes amounts = ap (λ l. id ∷ l) (ids-rows ids (drop n codes) (drop m amounts))

  pub tuple_at : (ids codes : List ℕ) (amounts : List ℤ) (k : ℕ) (d : Row ℕ) → k < length ids
      → (get_or (rows_from n m ids codes amounts) k d).tuple ≡ take n (drop (k * n) codes)
  tuple_at [] codes amounts k d h = absurd (omega arith)
  tuple_at (id ∷ ids) codes amounts zero d h = ap (take n) (sym (no_lines n codes))
  tuple_at (id ∷ ids) codes amounts (suc k) d h = tuple_at ids (drop n codes) (drop m amounts) k d (omega arith)
      ∙ ap (take n) (deeper n k codes)

  pub amounts_at : (ids codes : List ℕ) (amounts : List ℤ) (k : ℕ) (d : Row ℕ) → k < length ids
      → (get_or (rows_from n m ids codes amounts) k d).amounts ≡ take m (drop (k * m) amounts)
  amounts_at [] codes amounts k d h = absurd (omega arith)
  amounts_at (id ∷ ids) codes amounts zero d h = ap (take m) (sym (no_lines m amounts))
  amounts_at (id ∷ ids) codes amounts (suc k) d h = amounts_at ids (drop n codes) (drop m amounts) k d (omega arith)
      ∙ ap (take m) (deeper m k amounts)

  pub same_row : (id : ℕ) {t u : List ℕ} {a b : List ℤ} {rest more : List (Row ℕ)} → t ≡ u → a ≡ b → rest ≡ more
      → ◌≡◌ {A = List (Row ℕ)} (record { id = id; tuple = t; amounts = a } ∷ rest)
      (record { id = id; tuple = u; amounts = b } ∷ more)
  same_row id e f g = λ j. record { id = id; tuple = e j; amounts = f j } ∷ g j

  pub same_parts : (ids : List ℕ) {c e : List ℕ} {a b : List ℤ} → c ≡ e → a ≡ b
      → rows_from n m ids c a ≡ rows_from n m ids e b
  same_parts ids e f = λ j. rows_from n m ids (e j) (f j)

  pub rows-push : (ids codes : List ℕ) (amounts : List ℤ) (id : ℕ) (c : List ℕ) (a : List ℤ)
      → length codes ≡ length ids * n → length amounts ≡ length ids * m → length c ≡ n → length a ≡ m
      → rows_from n m (ids ++ id ∷ []) (codes ++ c) (amounts ++ a) ≡ rows_from n m ids codes amounts
      ++ record { id = id; tuple = c; amounts = a } ∷ []
  rows-push [] codes amounts id c a hc ha lc la =
      let nc : codes ≡ [] = nil_from_length codes (omega (arith, hc)) in
      let na : amounts ≡ [] = nil_from_length amounts (omega (arith, ha)) in
      same_row id (ap (λ l. take n (l ++ c)) nc ∙ take_all n c (omega arith)) (ap (λ l. take m (l ++ a)) na
      ∙ take_all m a (omega arith)) refl
  rows-push (i ∷ ids) codes amounts id c a hc ha lc la =
      same_row i (take-append-le n codes c (long_enough n (length ids) codes hc))
      (take-append-le m amounts a (long_enough m (length ids) amounts ha))
      (same_parts (ids ++ id ∷ []) (drop-append-le n codes c (long_enough n (length ids) codes hc))
      (drop-append-le m amounts a (long_enough m (length ids) amounts ha))
      ∙ rows-push ids (drop n codes) (drop m amounts) id c a (rest_len n (length ids) codes hc)
      (rest_len m (length ids) amounts ha) lc la)

  pub rows-take : (len : ℕ) (ids codes : List ℕ) (amounts : List ℤ)
      → rows_from n m (take len ids) (take (len * n) codes) (take (len * m) amounts)
      ≡ take len (rows_from n m ids codes amounts)
  rows-take zero ids codes amounts = refl
  rows-take (suc len) [] codes amounts = refl
  rows-take (suc len) (id ∷ ids) codes amounts =
      same_row id (first_line n len codes) (first_line m len amounts)
      (same_parts (take len ids) (later_lines n len codes) (later_lines m len amounts)
      ∙ rows-take len ids (drop n codes) (drop m amounts))

  pub rows-keep : (kept : List Bool) (ids codes : List ℕ) (amounts : List ℤ) → length kept ≡ length ids
      → length codes ≡ length ids * n → length amounts ≡ length ids * m
      → rows_from n m (picked kept ids) (picked_lines n kept codes) (picked_lines m kept amounts)
      ≡ picked kept (rows_from n m ids codes amounts)
  rows-keep [] ids codes amounts e hc ha = refl
  rows-keep (b ∷ kept) [] codes amounts e hc ha = absurd (omega arith)
  rows-keep (true ∷ kept) (id ∷ ids) codes amounts e hc ha =
      let lc = length-take-le n codes (long_enough n (length ids) codes hc) in
      let la = length-take-le m amounts (long_enough m (length ids) amounts ha) in
      same_row id (take_at (take n codes) (picked_lines n kept (drop n codes)) n lc)
      (take_at (take m amounts) (picked_lines m kept (drop m amounts)) m la)
      (same_parts (picked kept ids) (drop_at (take n codes) (picked_lines n kept (drop n codes)) n lc)
      (drop_at (take m amounts) (picked_lines m kept (drop m amounts)) m la)
      ∙ rows-keep kept ids (drop n codes) (drop m amounts) (omega arith) (rest_len n (length ids) codes hc)
      (rest_len m (length ids) amounts ha))
  rows-keep (false ∷ kept) (id ∷ ids) codes amounts e hc ha
      = rows-keep kept ids (drop n codes) (drop m amounts) (omega arith) (rest_len n (length ids) codes hc)
      (rest_len m (length ids) amounts ha)

  -- the store after a row more
  pub store_pushed : (k : Fingerprinter) (t : ℕ) (ids prints codes : List ℕ) (amounts : List ℤ) (room more id : ℕ)
      (tuple : Cell ℕ) (a : List ℤ) → IsStore n m k t ids prints codes amounts room → (length ids + 1) * 16 ≤ more
      → All (λ entry. is_some entry ≡ true) tuple → IsRow n m (row_of id tuple a)
      → IsStore n m k t (ids ++ id ∷ []) (prints ++ print_in k tuple ∷ []) (codes ++ values_of tuple)
      (amounts ++ a) more
  store_pushed k t ids prints codes amounts room more id tuple a s fits full r =
      let rows = rows_from n m ids codes amounts in
      let new : rows_from n m (ids ++ id ∷ []) (codes ++ values_of tuple) (amounts ++ a) ≡ rows ++ row_of id tuple a
      ∷ [] = rows-push ids codes amounts id (values_of tuple) a s.codes_len s.amounts_len r.tuple r.amounts in
      record {
        few_dims = s.few_dims;
        few_measures = s.few_measures;
        codes_len = length-append codes (values_of tuple) ∙ ap₂ (λ p q. p + q) s.codes_len r.tuple
            ∙ more_lines (length ids) n (length (ids ++ id ∷ [])) (length-append ids (id ∷ []));
        amounts_len = length-append amounts a ∙ ap₂ (λ p q. p + q) s.amounts_len r.amounts
            ∙ more_lines (length ids) m (length (ids ++ id ∷ [])) (length-append ids (id ∷ []));
        prints_are = ap₂ (λ p q. p ++ print_in k q ∷ []) s.prints_are (sym (cell-values tuple full))
            ∙ sym (map-append (print_of k) rows (row_of id tuple a ∷ [])) ∙ ap (map (print_of k)) (sym new);
        printer_le = s.printer_le;
        then_le = s.then_le;
        room_for_all = omega (arith, fits, length-append ids (id ∷ []));
        each = subst (All (IsRow n m)) (sym new) (All-push (IsRow n m) rows (row_of id tuple a) s.each r);
      }
    where
      more_lines : (l w k : ℕ) → k ≡ l + 1 → l * w + w ≡ k * w
      more_lines l w k e = plus_one l w ∙ ap (λ k. k * w) (sym e)

  pub store_cut : (k : Fingerprinter) (t len : ℕ) (ids prints codes : List ℕ) (amounts : List ℤ) (room more : ℕ)
      → IsStore n m k t ids prints codes amounts room → room ≤ more → len ≤ length ids
      → IsStore n m k t (take len ids) (take len prints) (take (len * n) codes) (take (len * m) amounts) more
  store_cut k t len ids prints codes amounts room more s le h =
      let rows = rows_from n m ids codes amounts in
      let new : rows_from n m (take len ids) (take (len * n) codes) (take (len * m) amounts) ≡ take len rows
      = rows-take len ids codes amounts in
      record {
        few_dims = s.few_dims;
        few_measures = s.few_measures;
        codes_len = length-take-le (len * n) codes (shorter len (length ids) n (length codes) h s.codes_len)
            ∙ ap (λ k. k * n) (sym (length-take-le len ids h));
        amounts_len = length-take-le (len * m) amounts (shorter len (length ids) m (length amounts) h s.amounts_len)
            ∙ ap (λ k. k * m) (sym (length-take-le len ids h));
        prints_are = ap (take len) s.prints_are ∙ take-map (print_of k) len rows ∙ ap (map (print_of k)) (sym new);
        printer_le = s.printer_le;
        then_le = s.then_le;
        room_for_all = omega (arith, s.room_for_all, le, h, length-take-le len ids h);
        each = subst (All (IsRow n m)) (sym new) (All-take (IsRow n m) len rows s.each);
      }
    where
      shorter : (l k w c : ℕ) → l ≤ k → c ≡ k * w → l * w ≤ c
      shorter l k w c h e = omega (arith, e, mul-le l w k w h (omega arith))

  pub store_kept : (k : Fingerprinter) (t : ℕ) (kept : List Bool) (ids prints codes : List ℕ) (amounts : List ℤ)
      (room more : ℕ) → IsStore n m k t ids prints codes amounts room → room ≤ more → length kept ≡ length ids
      → IsStore n m k t (picked kept ids) (picked kept prints) (picked_lines n kept codes)
      (picked_lines m kept amounts) more
  store_kept k t kept ids prints codes amounts room more s le h =
      let rows = rows_from n m ids codes amounts in
      let new : rows_from n m (picked kept ids) (picked_lines n kept codes) (picked_lines m kept amounts)
      ≡ picked kept rows = rows-keep kept ids codes amounts h s.codes_len s.amounts_len in
      record {
        few_dims = s.few_dims;
        few_measures = s.few_measures;
        codes_len = length-lines n kept ids codes h s.codes_len;
        amounts_len = length-lines m kept ids amounts h s.amounts_len;
        prints_are = ap (picked kept) s.prints_are ∙ picked-map (print_of k) kept rows
            ∙ ap (map (print_of k)) (sym new);
        printer_le = s.printer_le;
        then_le = s.then_le;
        room_for_all = omega (arith, s.room_for_all, le, h, picked-le kept ids);
        each = subst (All (IsRow n m)) (sym new) (All-picked (IsRow n m) kept rows s.each);
      }

  -- the row at a place of a store
  module _ (printer : Fingerprinter) (then : ℕ) (ids prints codes : List ℕ) (amounts : List ℤ) (room : ℕ)
      (s : IsStore n m printer then ids prints codes amounts room) (rows : StoredRows)
      (view : ◌≡◌ {A = StoredRows} (record {
        dims = n;
        dims_then = then;
        printer = printer;
        measures = m;
        rows
            = rows_from n m ids codes amounts;
      }) rows) where
    pub length-view : length rows.rows ≡ length ids
    length-view = sym (ap (λ (r : StoredRows). length r.rows) view) ∙ length-rows ids codes amounts

    pub codes_fit : (k : ℕ) → k < length rows.rows → k * n + n ≤ length codes
    codes_fit k h = omega (
      arith,
      s.codes_len,
      length-view,
      row_fits k n (length ids) n (omega (arith, length-view)) (omega arith),
    )

    pub amounts_fit : (k : ℕ) → k < length rows.rows → k * m + m ≤ length amounts
    amounts_fit k h = omega (
      arith,
      s.amounts_len,
      length-view,
      row_fits k m (length ids) m (omega (arith, length-view)) (omega arith),
    )

    pub tuple-view : (k : ℕ) (d : Row ℕ) → k < length rows.rows
        → take n (drop (k * n) codes) ≡ (get_or rows.rows k d).tuple
    tuple-view k d h = sym (tuple_at ids codes amounts k d (omega (arith, length-view)))
        ∙ ap (λ (r : StoredRows). (get_or r.rows k d).tuple) view

    pub amounts-view : (k : ℕ) (d : Row ℕ) → k < length rows.rows
        → take m (drop (k * m) amounts) ≡ (get_or rows.rows k d).amounts
    amounts-view k d h = sym (amounts_at ids codes amounts k d (omega (arith, length-view)))
        ∙ ap (λ (r : StoredRows). (get_or r.rows k d).amounts) view

    pub row-view : (k : ℕ) (d : Row ℕ) → k < length rows.rows → IsRow n m (get_or rows.rows k d)
    row-view k d h = subst (λ (r : StoredRows). IsRow n m (get_or r.rows k d)) view
        (s.each k d (omega (arith, length-view, length-rows ids codes amounts)))

    pub ids-view : ids ≡ map id_of rows.rows
    ids-view = sym (ids-rows ids codes amounts) ∙ ap (λ (r : StoredRows). map id_of r.rows) view

    pub prints-view : prints ≡ map (print_of rows.printer) rows.rows
    prints-view = s.prints_are ∙ ap (λ (r : StoredRows). map (print_of r.printer) r.rows) view

    pub length-prints : length prints ≡ length ids
    length-prints = ap length s.prints_are ∙ length-map (rows_from n m ids codes amounts) (print_of printer)
        ∙ length-rows ids codes amounts
