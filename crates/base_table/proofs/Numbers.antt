-- The numbers of the rows that are here.
use Rattle.std.proofs.Common.{◌≡◌, ℕ, ◌+◌, ◌<◌, Bool, true, false, cond, List, [], ◌∷◌, ◌++◌, Option, Some, None, length, map, filter}
use Rattle.std.proofs.Common.{get_or, refl, ap, ap₂, sym, ◌∙◌, arith, suc, zero, is_some, length-append, subst}
use Rattle.std.specs.List.{cons_option, filter_map, range_with_len, All}
use Rattle.std.proofs.lemmas.List.{append-nil, get_or_default, map-append, append_assoc, get_or-map, get_or_at, length-map}
use Rattle.std.proofs.lemmas.List.Elements.{filter_agree, filter_passes}
use Rattle.cube_defs.specs.Rows.{Row}
use Rattle.base_table.specs.Places.{AreThere, Places, named, numbers, row_at, rows_in, rows_of}
use Rattle.base_table.specs.Store.{placed}
use Rattle.base_table.specs.declared.table.RowNo.{RowNo}
use Rattle.cube_laws.proofs.CallerLemmas.{filter_range_more}

module _ (here : List Bool) (k : ℕ) (mark : Bool) (nos nos' : List RowNo) where
  abbrev Numbers : List RowNo → ℕ → Type 0
  Numbers nos n = map (λ (no : RowNo). no.0) nos ≡ filter (λ k. get_or here k false) (range_with_len 0 n)

  pub number_more : mark ≡ get_or here k mark → mark ≡ true → nos' ≡ nos ++ record { 0 = k } ∷ [] → k < length here
      → Numbers nos k → Numbers nos' (k + 1)
  number_more at set e lt h =
      let there : get_or here k false ≡ true = get_or_default here k false mark lt ∙ sym at ∙ set in
      ap (map (λ (no : RowNo). no.0)) e ∙ map-append (λ (no : RowNo). no.0) nos (record { 0 = k } ∷ [])
      ∙ ap₂ (λ (l : List ℕ) (b : Bool). l ++ cond b (k ∷ []) []) h (sym there)
      ∙ sym (filter_range_more (λ k. get_or here k false) k)

  pub number_less : mark ≡ get_or here k mark → mark ≡ false → nos' ≡ nos → k < length here → Numbers nos k
      → Numbers nos' (k + 1)
  number_less at clear e lt h =
      let there : get_or here k false ≡ false = get_or_default here k false mark lt ∙ sym at ∙ clear in
      ap (map (λ (no : RowNo). no.0)) e ∙ sym (append-nil (map (λ (no : RowNo). no.0) nos))
      ∙ ap₂ (λ (l : List ℕ) (b : Bool). l ++ cond b (k ∷ []) []) h (sym there)
      ∙ sym (filter_range_more (λ k. get_or here k false) k)

-- a place has a row where its mark is set
mark_at : (here : List Bool) (rows : List (Row ℕ)) → length rows ≡ length here → (k : ℕ)
    → get_or here k false ≡ is_some (get_or (placed here rows) k None)
mark_at [] rows e k = refl
mark_at (b ∷ here) [] e k = absurd (omega arith)
mark_at (true ∷ here) (row ∷ rows) e zero = refl
mark_at (false ∷ here) (row ∷ rows) e zero = refl
mark_at (b ∷ here) (row ∷ rows) e (suc k) = mark_at here rows (omega arith) k

filter_map-map : {X Y Z : Type 0} (h : Y → Option Z) (f : X → Y) (xs : List X)
    → filter_map (λ x. h (f x)) xs ≡ filter_map h (map f xs)
filter_map-map h f [] = refl
filter_map-map {X = X} {Z = Z} h f (x ∷ xs) = by (h (f x)) (filter_map-map h f xs)
  where
    by : (o : Option Z) → filter_map (λ x. h (f x)) xs ≡ filter_map h (map f xs)
        → cons_option o (filter_map (λ x. h (f x)) xs) ≡ cons_option o (filter_map h (map f xs))
    by o e = ap (cons_option o) e

filter_map-filter : {X Y : Type 0} (h : X → Option Y) (xs : List X)
    → filter_map h (filter (λ x. is_some (h x)) xs) ≡ filter_map h xs
filter_map-filter h [] = refl
filter_map-filter {Y = Y} h (x ∷ xs) = by (h x) refl (filter_map-filter h xs)
  where
    by : (o : Option Y) → h x ≡ o → filter_map h (filter (λ x. is_some (h x)) xs) ≡ filter_map h xs
        → filter_map h (cond (is_some o) (x ∷ filter (λ x. is_some (h x)) xs) (filter (λ x. is_some (h x)) xs))
        ≡ cons_option o (filter_map h xs)
    by None e r = r
    by (Some y) e r = ap₂ cons_option e r

each_place : (pre places : List (Option (Row ℕ)))
    → filter_map (λ k. get_or (pre ++ places) k None) (range_with_len (length pre) (length places)) ≡ rows_in places
each_place pre [] = refl
each_place pre (place ∷ places) =
    let at : get_or (pre ++ place ∷ places) (length pre) None ≡ place
    = get_or_at pre place places None (length pre) refl in
    let on : pre ++ place ∷ [] ++ places ≡ pre ++ place ∷ places = append_assoc pre (place ∷ []) places in
    let n : length (pre ++ place ∷ []) ≡ length pre + 1 = length-append pre (place ∷ []) in
    ap₂ cons_option at
    (ap₂ (λ (l : List (Option (Row ℕ))) (n : ℕ). filter_map (λ k. get_or l k None) (range_with_len n (length places)))
    (sym on) (sym n) ∙ each_place (pre ++ place ∷ []) places)

module _ (t : Places) (here : List Bool) (rows : List (Row ℕ)) (same : length rows ≡ length here)
    (placed_is : placed here rows ≡ t.places) (len : length here ≡ length t.places) (nos : List RowNo)
    (are : map (λ (no : RowNo). no.0) nos ≡ filter (λ k. get_or here k false) (range_with_len 0 (length here))) where
  pub numbers-view : map (λ (no : RowNo). no.0) nos ≡ numbers t
  numbers-view =
      are ∙ filter_agree (λ k. get_or here k false) (λ k. is_some (row_at t k)) (λ k. mark_at here rows same k
      ∙ ap (λ (l : List (Option (Row ℕ))). is_some (get_or l k None)) placed_is) (range_with_len 0 (length here))
      ∙ ap (λ n. filter (λ k. is_some (row_at t k)) (range_with_len 0 n)) len

  pub named-view : named t nos ≡ rows_of t
  named-view =
      filter_map-map (row_at t) (λ (no : RowNo). no.0) nos ∙ ap (filter_map (row_at t)) numbers-view
      ∙ filter_map-filter (row_at t) (range_with_len 0 (length t.places)) ∙ each_place [] t.places

  pub there-view : AreThere t nos
  there-view = λ k d l.
      let lt : k < length (map (λ (no : RowNo). no.0) nos) = omega (arith, length-map nos (λ (no : RowNo). no.0)) in
      let all : All (λ k. is_some (row_at t k) ≡ true) (map (λ (no : RowNo). no.0) nos)
      = subst (All (λ k. is_some (row_at t k) ≡ true)) (sym numbers-view)
      (filter_passes (λ k. is_some (row_at t k)) (range_with_len 0 (length t.places))) in
      ap (λ n. is_some (row_at t n)) (sym (get_or-map (λ (no : RowNo). no.0) nos k d d.0 l)) ∙ all k d.0 lt
