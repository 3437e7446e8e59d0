-- Lists of one width that lie one after another.
use Rattle.std.proofs.Common.{◌≡◌, ℕ, zero, suc, ◌+◌, ◌*◌, ◌<◌, ◌≤◌, Bool, true, false, cond, List, [], ◌∷◌, ◌++◌, Option, Some, None}
use Rattle.std.proofs.Common.{length, take, drop, get_or, refl, ap, ap₂, sym, ◌∙◌, arith, nat_eq, append_assoc, add-one, length-append}
use Rattle.std.proofs.Common.{length-drop, ◌-◌, subst}
use Rattle.std.proofs.lemmas.List.{append-nil, get_or-map, map_more, take_more, drop-drop, take_at, drop_at, length-take-le}
use Rattle.std.proofs.lemmas.Nat.{row_fits}
use Rattle.cube_defs.specs.Cell.{Cell, cell_eq, cell_of}
use Rattle.cube_laws.proofs.CallerLemmas.{cell_eq-exact, cell_eq-from, nat_equality}
use Rattle.base_table.specs.Store.{code_or_any, picked_lines}

-- one line more is looked at
lines_suc : {A : Type 0} (width : ℕ) (kept : List Bool) (cells : List A) (i : ℕ) → i < length kept
    → picked_lines width (take (suc i) kept) cells ≡ picked_lines width (take i kept) cells
    ++ cond (get_or kept i false) (take width (drop (i * width) cells)) []
lines_suc width [] cells i h = absurd (omega arith)
lines_suc width (b ∷ kept) cells zero h =
    let none : 0 * width ≡ 0 = omega arith in
    append-nil (cond b (take width cells) []) ∙ ap (λ n. cond b (take width (drop n cells)) []) (sym none)
lines_suc width (b ∷ kept) cells (suc i) h =
    let place : width + i * width ≡ suc i * width = grind arith in
    let behind : drop (i * width) (drop width cells) ≡ drop (suc i * width) cells = drop-drop (i * width) width cells
    ∙ ap (λ n. drop n cells) place in
    ap (λ l. cond b (take width cells) [] ++ l) (lines_suc width kept (drop width cells) i (omega arith)
    ∙ ap (λ l. picked_lines width (take i kept) (drop width cells)
    ++ cond (get_or kept i false) (take width l) []) behind)
    ∙ sym (append_assoc (cond b (take width cells) []) _ _)

lines_more : {A : Type 0} (width : ℕ) (kept : List Bool) (cells : List A) (i : ℕ) → i < length kept
    → picked_lines width (take (i + 1) kept) cells ≡ picked_lines width (take i kept) cells
    ++ cond (get_or kept i false) (take width (drop (i * width) cells)) []
lines_more width kept cells i h = rw add-one (lines_suc width kept cells i h)

pub cell_differs : (c d : Cell ℕ) (i : ℕ) → (get_or c i None ≡ get_or d i None → ⊥) → cell_eq nat_eq c d ≡ false
cell_differs c d i h = by (cell_eq nat_eq c d) refl
  where
    by : (b : Bool) → cell_eq nat_eq c d ≡ b → b ≡ false
    by false e = refl
    by true e = absurd (h (ap (λ (l : Cell ℕ). get_or l i None) (cell_eq-exact nat_equality c d e)))

pub cell_same : (c d : Cell ℕ) → c ≡ d → cell_eq nat_eq c d ≡ true
cell_same c d e = cell_eq-from nat_equality c d e

pub code_is : (e : Option ℕ) (n : ℕ) → code_or_any e ≡ n → n < 4000000 → e ≡ Some n
code_is None n h l = absurd (omega arith)
code_is (Some code) n h l = ap (λ n. Some n) h

pub cell_at : (codes : List ℕ) (i : ℕ) → i < length codes → get_or (cell_of codes) i None ≡ Some (get_or codes i 0)
cell_at codes i l = get_or-map (λ v. Some v) codes i 0 None l

-- the codes are those of the cell as far as one entry more
pub cell_more : (codes : List ℕ) (tuple : Cell ℕ) (i : ℕ) → i < length codes → i < length tuple
    → take i tuple ≡ cell_of (take i codes) → get_or tuple i None ≡ Some (get_or codes i 0)
    → take (i + 1) tuple ≡ cell_of (take (i + 1) codes)
cell_more codes tuple i l t h e =
    take_more tuple i None t ∙ ap₂ (λ (c : Cell ℕ) (o : Option ℕ). c ++ o ∷ []) h e
    ∙ sym (map_more (λ v. Some v) codes i 0 l)

code_of_some : (o : Option ℕ) (n : ℕ) → o ≡ Some n → code_or_any o ≡ n
code_of_some o n e = ap code_or_any e

pub cell_stops : (codes : List ℕ) (tuple : Cell ℕ) (i : ℕ) → i < length codes
    → (code_or_any (get_or tuple i None) ≡ get_or codes i 0 → ⊥) → cell_eq nat_eq (cell_of codes) tuple ≡ false
cell_stops codes tuple i l h
    = cell_differs (cell_of codes) tuple i (λ e. h (code_of_some _ _ (sym e ∙ cell_at codes i l)))

-- the part after the lines that were moved stays as it was
pub drop_paste : {A : Type 0} (cells : List A) (to from n : ℕ) → to ≤ from → from + n ≤ length cells
    → drop (from + n) (take to cells ++ take n (drop from cells) ++ drop (to + n) cells) ≡ drop (from + n) cells
drop_paste cells to from n le fits =
    let head : length (take to cells ++ take n (drop from cells)) ≡ to + n
    = omega (
      arith,
      length-append (take to cells) (take n (drop from cells)),
      length-take-le to cells (omega arith),
      length-take-le n (drop from cells) (omega (arith, length-drop from cells)),
      length-drop from cells,
    ) in
    let rest : ℕ = from + n - (to + n) in
    let whole : length (take to cells ++ take n (drop from cells)) + rest ≡ from + n = omega arith in
    ap (λ k. drop k (take to cells ++ take n (drop from cells) ++ drop (to + n) cells)) (sym whole)
    ∙ sym (drop-drop rest (length (take to cells ++ take n (drop from cells))) _)
    ∙ ap (drop rest) (drop_at (take to cells ++ take n (drop from cells)) (drop (to + n) cells) _ refl)
    ∙ drop-drop rest (to + n) cells ∙ ap (λ k. drop k cells) (omega arith)

pub take_paste : {A : Type 0} (cells : List A) (to from n : ℕ) → to ≤ from → from + n ≤ length cells
    → take (to + n) (take to cells ++ take n (drop from cells) ++ drop (to + n) cells) ≡ take to cells
    ++ take n (drop from cells)
take_paste cells to from n le fits =
    take_at (take to cells ++ take n (drop from cells)) (drop (to + n) cells) (to + n)
    (omega (
      arith,
      length-append (take to cells) (take n (drop from cells)),
      length-take-le to cells (omega arith),
      length-take-le n (drop from cells) (omega (arith, length-drop from cells)),
      length-drop from cells,
    ))

pub length_paste : {A : Type 0} (cells : List A) (to from n : ℕ) → to ≤ from → from + n ≤ length cells
    → length (take to cells ++ take n (drop from cells) ++ drop (to + n) cells) ≡ length cells
length_paste cells to from n le fits =
    omega (
      arith,
      length-append (take to cells ++ take n (drop from cells)) (drop (to + n) cells),
      length-append (take to cells) (take n (drop from cells)),
      length-take-le to cells (omega arith),
      length-take-le n (drop from cells) (omega (arith, length-drop from cells)),
      length-drop from cells,
      length-drop (to + n) cells,
    )

pub later : {A : Type 0} (from n : ℕ) (xs ys : List A) → drop from xs ≡ drop from ys
    → drop (from + n) xs ≡ drop (from + n) ys
later from n xs ys e = sym (drop-drop n from xs) ∙ ap (drop n) e ∙ drop-drop n from ys

next_place : (i width from : ℕ) → from ≡ i * width → from + width ≡ (i + 1) * width
next_place i width from e = grind arith

-- the loop of `retain_lines`
pub record AreKept {A : Type 0} (width : ℕ) (kept : List Bool) (was cells : List A) (i from to : ℕ) : Type 0 where
  pub place : from ≡ i * width
  pub within : to ≤ from
  pub len : length cells ≡ length kept * width
  pub front : take to cells ≡ picked_lines width (take i kept) was
  pub back : drop from cells ≡ drop from was

pub fits_line : {A : Type 0} (width : ℕ) (kept : List Bool) (was cells : List A) (i from to : ℕ)
    → AreKept width kept was cells i from to → i < length kept → from + width ≤ length cells
fits_line width kept was cells i from to h l
    = omega (arith, h.place, h.len, row_fits i width (length kept) width l (omega arith))

kept_line : {A : Type 0} (width : ℕ) (kept : List Bool) (was cells cells' : List A) (i from to : ℕ)
    → AreKept width kept was cells i from to → i < length kept → get_or kept i false ≡ true
    → cells' ≡ take to cells ++ take width (drop from cells) ++ drop (to + width) cells
    → AreKept width kept was cells' (i + 1) (from + width) (to + width)
kept_line {A} width kept was cells cells' i from to h l marked e =
    let fits : from + width ≤ length cells = fits_line width kept was cells i from to h l in
    record {
      place = next_place i width from h.place;
      within = omega (arith, h.within);
      len = ap length e ∙ length_paste cells to from width h.within fits ∙ h.len;
      front = ap (take (to + width)) e ∙ take_paste cells to from width h.within fits
          ∙ ap (λ (l : List A). l ++ take width (drop from cells)) h.front
          ∙ ap (λ (l : List A). picked_lines width (take i kept) was ++ take width l) (h.back
          ∙ ap (λ n. drop n was) h.place)
          ∙ ap (λ (b : Bool). picked_lines width (take i kept) was ++ cond b (take width (drop (i * width) was)) [])
          (sym marked)
          ∙ sym (lines_more width kept was i l);
      back = ap (drop (from + width)) e ∙ drop_paste cells to from width h.within fits
          ∙ later from width cells was h.back;
    }

pub keep_line : {A : Type 0} (width : ℕ) (kept : List Bool) (was cells cells' : List A) (i from to to' n : ℕ)
    → AreKept width kept was cells i from to → i < length kept → get_or kept i false ≡ true
    → n ≡ width → to' ≡ to + width → cells' ≡ take to cells ++ take n (drop from cells) ++ drop (to + n) cells
    → AreKept width kept was cells' (i + 1) (from + width) to'
keep_line {A} width kept was cells cells' i from to to' n h l marked same place e =
    subst (λ t. AreKept width kept was cells' (i + 1) (from + width) t) (sym place)
    (kept_line width kept was cells cells' i from to h l marked (e
    ∙ ap (λ n. take to cells ++ take n (drop from cells) ++ drop (to + n) cells) same))

skipped_line : {A : Type 0} (width : ℕ) (kept : List Bool) (was cells : List A) (i from to : ℕ)
    → AreKept width kept was cells i from to → i < length kept → get_or kept i false ≡ false
    → AreKept width kept was cells (i + 1) (from + width) to
skipped_line {A} width kept was cells i from to h l unmarked = record {
  place = next_place i width from h.place;
  within = omega (arith, h.within);
  len = h.len;
  front = h.front ∙ sym (append-nil (picked_lines width (take i kept) was))
      ∙ ap (λ (b : Bool). picked_lines width (take i kept) was ++ cond b (take width (drop (i * width) was)) [])
      (sym unmarked)
      ∙ sym (lines_more width kept was i l);
  back = later from width cells was h.back;
}

pub skip_line : {A : Type 0} (width : ℕ) (kept : List Bool) (was cells cells' : List A) (i from to to' : ℕ)
    → AreKept width kept was cells i from to → i < length kept → get_or kept i false ≡ false → cells' ≡ cells → to' ≡ to
    → AreKept width kept was cells' (i + 1) (from + width) to'
skip_line {A} width kept was cells cells' i from to to' h l unmarked same place
    = subst (λ t. AreKept width kept was cells' (i + 1) (from + width) t) (sym place)
    (subst (λ (c : List A). AreKept width kept was c (i + 1) (from + width) to) (sym same)
    (skipped_line width kept was cells i from to h l unmarked))
