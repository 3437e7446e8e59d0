-- Rows and the marks that say which of them are here.
use Rattle.std.proofs.Common.{◌≡◌, ℕ, ◌+◌, ◌<◌, ◌≤◌, Bool, true, false, cond, List, [], ◌∷◌, ◌++◌, Option, Some, None, length, take, map}
use Rattle.std.proofs.Common.{filter, get_or, set, refl, ap, ap₂, sym, ◌∙◌, subst, arith, zero, suc, nat_eq, is_some, true≢false, not}
use Rattle.std.proofs.lemmas.Bool.{eqb-true, eq-eqb, ne_eqb}
use Rattle.std.proofs.lemmas.List.{length-map, get_or-map}
use Rattle.cube_defs.specs.Rows.{Row}
use Rattle.base_table.specs.Last.{last_of, picked}
use Rattle.base_table.specs.Places.{cleared, has_id, row_with_id, rows_in, without_id}
use Rattle.base_table.specs.Store.{AreLast, IsFound, id_of, placed}
use Rattle.base_table.proofs.LastPlaces.{last_passes, last_within, none_passes}

pub rows_in-placed : (here : List Bool) (rows : List (Row ℕ)) → rows_in (placed here rows) ≡ picked here rows
rows_in-placed [] rows = refl
rows_in-placed (b ∷ here) [] = refl
rows_in-placed (true ∷ here) (row ∷ rows) = ap (λ l. row ∷ l) (rows_in-placed here rows)
rows_in-placed (false ∷ here) (row ∷ rows) = rows_in-placed here rows

pub length-placed : (here : List Bool) (rows : List (Row ℕ)) → length rows ≡ length here
    → length (placed here rows) ≡ length here
length-placed [] rows h = refl
length-placed (b ∷ here) [] h = absurd (omega arith)
length-placed (b ∷ here) (row ∷ rows) h = ap suc (length-placed here rows (omega arith))

pub placed_at : (here : List Bool) (rows : List (Row ℕ)) (k : ℕ) (d : Row ℕ) → length rows ≡ length here
    → k < length here → get_or (placed here rows) k None ≡ cond (get_or here k false) (Some (get_or rows k d)) None
placed_at [] rows k d h l = absurd (omega arith)
placed_at (b ∷ here) [] k d h l = absurd (omega arith)
placed_at (b ∷ here) (row ∷ rows) zero d h l = refl
placed_at (b ∷ here) (row ∷ rows) (suc k) d h l = placed_at here rows k d (omega arith) (omega arith)

placed_within : (here : List Bool) (rows : List (Row ℕ)) (k : ℕ) → is_some (get_or (placed here rows) k None) ≡ true
    → k < length here
placed_within [] rows k h = absurd (true≢false (sym h))
placed_within (b ∷ here) [] k h = absurd (true≢false (sym h))
placed_within (b ∷ here) (row ∷ rows) zero h = omega arith
placed_within (b ∷ here) (row ∷ rows) (suc k) h = omega (arith, placed_within here rows k h)

-- the row at a place is there
pub record IsAt (here : List Bool) (rows : List (Row ℕ)) (k : ℕ) : Type 0 where
  pub within : k < length here
  pub there : get_or here k false ≡ true
  pub row : (d : Row ℕ) → get_or (placed here rows) k None ≡ Some (get_or rows k d)

pub at_place : (here : List Bool) (rows : List (Row ℕ)) (k : ℕ) → length rows ≡ length here
    → is_some (get_or (placed here rows) k None) ≡ true → IsAt here rows k
at_place here rows k e h =
    let lt : k < length here = placed_within here rows k h in
    by (get_or here k false) refl lt
  where
    by : (b : Bool) → get_or here k false ≡ b → k < length here → IsAt here rows k
    by true t lt = record {
      within = lt;
      there = t;
      row = λ d. placed_at here rows k d e lt
          ∙ ap (λ c. cond c (Some (get_or rows k d)) None) t;
    }
    by false t lt =
        let d : Row ℕ = record { id = 0; tuple = []; amounts = [] } in
        absurd (true≢false (sym h
        ∙ ap is_some (placed_at here rows k d e lt ∙ ap (λ c. cond c (Some (get_or rows k d)) None) t)))

module _ {A : Type 0} where
  pub picked-nil : (here : List Bool) → picked here (let none : List A = [] in none) ≡ []
  picked-nil [] = refl
  picked-nil (b ∷ here) = refl

  pub picked-take : (n : ℕ) (here : List Bool) (xs : List A) → length here ≤ n
      → picked here (take n xs) ≡ picked here xs
  picked-take zero [] xs h = refl
  picked-take zero (b ∷ here) xs h = absurd (omega arith)
  picked-take (suc n) [] xs h = refl
  picked-take (suc n) (b ∷ here) [] h = refl
  picked-take (suc n) (b ∷ here) (x ∷ xs) h = ap (λ l. cond b (x ∷ l) l) (picked-take n here xs (omega arith))

  pub picked-append : (here : List Bool) (xs more : List A) → length here ≤ length xs
      → picked here (xs ++ more) ≡ picked here xs
  picked-append [] xs more h = refl
  picked-append (b ∷ here) [] more h = absurd (omega arith)
  picked-append (b ∷ here) (x ∷ xs) more h = ap (λ l. cond b (x ∷ l) l) (picked-append here xs more (omega arith))

  cond-append : (b : Bool) (x : A) (l more : List A) → cond b (x ∷ (l ++ more)) (l ++ more) ≡ cond b (x ∷ l) l ++ more
  cond-append true x l more = refl
  cond-append false x l more = refl

  pub picked-push : (here : List Bool) (xs : List A) (x : A) → length xs ≡ length here
      → picked (here ++ true ∷ []) (xs ++ x ∷ []) ≡ picked here xs ++ x ∷ []
  picked-push [] [] x h = refl
  picked-push [] (y ∷ xs) x h = absurd (omega arith)
  picked-push (b ∷ here) [] x h = absurd (omega arith)
  picked-push (b ∷ here) (y ∷ xs) x h = ap (λ l. cond b (y ∷ l) l) (picked-push here xs x (omega arith))
      ∙ cond-append b y (picked here xs) (x ∷ [])

  pub picked-le : (here : List Bool) (xs : List A) → length (picked here xs) ≤ length here
  picked-le [] xs = omega arith
  picked-le (b ∷ here) [] = omega arith
  picked-le (true ∷ here) (x ∷ xs) = omega (arith, picked-le here xs)
  picked-le (false ∷ here) (x ∷ xs) = omega (arith, picked-le here xs)

  -- the marks that are set pick all that is left
  pub picked-set_marks : (here : List Bool) (xs : List A)
      → picked (filter (λ b. b) here) (picked here xs) ≡ picked here xs
  picked-set_marks [] xs = refl
  picked-set_marks (b ∷ here) [] = picked-nil (filter (λ b. b) (b ∷ here))
  picked-set_marks (true ∷ here) (x ∷ xs) = ap (λ l. x ∷ l) (picked-set_marks here xs)
  picked-set_marks (false ∷ here) (x ∷ xs) = picked-set_marks here xs

  pub length-set_marks : (here : List Bool) (xs : List A) → length xs ≡ length here
      → length (filter (λ b. b) here) ≡ length (picked here xs)
  length-set_marks [] xs h = refl
  length-set_marks (b ∷ here) [] h = absurd (omega arith)
  length-set_marks (true ∷ here) (x ∷ xs) h = ap suc (length-set_marks here xs (omega arith))
  length-set_marks (false ∷ here) (x ∷ xs) h = length-set_marks here xs (omega arith)

  -- one row fewer is here
  pub picked_fewer : (here : List Bool) (xs : List A) (k : ℕ) → length xs ≡ length here → k < length here
      → get_or here k false ≡ true → length (picked here xs) ≡ suc (length (picked (set here k false) xs))
  picked_fewer [] xs k e l h = absurd (omega arith)
  picked_fewer (b ∷ here) [] k e l h = absurd (omega arith)
  picked_fewer (true ∷ here) (x ∷ xs) zero e l h = refl
  picked_fewer (false ∷ here) (x ∷ xs) zero e l h = absurd (true≢false (sym h))
  picked_fewer (true ∷ here) (x ∷ xs) (suc k) e l h = ap suc (picked_fewer here xs k (omega arith) (omega arith) h)
  picked_fewer (false ∷ here) (x ∷ xs) (suc k) e l h = picked_fewer here xs k (omega arith) (omega arith) h

pub placed-push : (here : List Bool) (rows : List (Row ℕ)) (row : Row ℕ) → length rows ≡ length here
    → placed (here ++ true ∷ []) (rows ++ row ∷ []) ≡ placed here rows ++ Some row ∷ []
placed-push [] [] row h = refl
placed-push [] (r ∷ rows) row h = absurd (omega arith)
placed-push (b ∷ here) [] row h = absurd (omega arith)
placed-push (b ∷ here) (r ∷ rows) row h = ap (λ l. cond b (Some r) None ∷ l) (placed-push here rows row (omega arith))

-- whether the rows here have an id
pub has_none : (here : List Bool) (rows : List (Row ℕ)) (id : ℕ) → length rows ≡ length here
    → ((k : ℕ) (d : Row ℕ) → k < length here → get_or here k false ≡ true → nat_eq (get_or rows k d).id id ≡ false)
    → has_id (picked here rows) id ≡ false
has_none [] rows id e h = refl
has_none (b ∷ here) [] id e h = absurd (omega arith)
has_none (true ∷ here) (row ∷ rows) id e h
    = grind (
      arith,
      has_none here rows id (omega arith) (λ k d l t. h (suc k) d (omega arith) t),
      h 0 row (omega arith) refl,
    )
has_none (false ∷ here) (row ∷ rows) id e h
    = has_none here rows id (omega arith) (λ k d l t. h (suc k) d (omega arith) t)

pub has_one : (here : List Bool) (rows : List (Row ℕ)) (id k : ℕ) (d : Row ℕ) → length rows ≡ length here
    → k < length here → get_or here k false ≡ true → nat_eq (get_or rows k d).id id ≡ true
    → has_id (picked here rows) id ≡ true
has_one [] rows id k d e l t h = absurd (omega arith)
has_one (b ∷ here) [] id k d e l t h = absurd (omega arith)
has_one (true ∷ here) (row ∷ rows) id zero d e l t h = grind (arith, h)
has_one (false ∷ here) (row ∷ rows) id zero d e l t h = absurd (true≢false (sym t))
has_one (true ∷ here) (row ∷ rows) id (suc k) d e l t h
    = grind (arith, has_one here rows id k d (omega arith) (omega arith) t h)
has_one (false ∷ here) (row ∷ rows) id (suc k) d e l t h = has_one here rows id k d (omega arith) (omega arith) t h

-- no row here has an id that the rows here don't have
pub no_row : (here : List Bool) (rows : List (Row ℕ)) (id : ℕ) → length rows ≡ length here
    → has_id (picked here rows) id ≡ false → (k : ℕ) (d : Row ℕ) → k < length here → get_or here k false ≡ true
    → nat_eq (get_or rows k d).id id ≡ false
no_row here rows id e h k d l t = by (nat_eq (get_or rows k d).id id) refl
  where
    by : (b : Bool) → nat_eq (get_or rows k d).id id ≡ b → nat_eq (get_or rows k d).id id ≡ false
    by false f = f
    by true f = absurd (true≢false (sym (has_one here rows id k d e l t f) ∙ h))

module _ (here : List Bool) (rows : List (Row ℕ)) (e : length rows ≡ length here) (a : AreLast here rows) (id : ℕ) where
  only_last : (k : ℕ) → last_of (nat_eq id) (map id_of rows) ≡ suc k → (i : ℕ) (d : Row ℕ) → i < length here
      → get_or here i false ≡ true → (get_or rows i d).id ≡ id → i ≡ k
  only_last k h i d l t same =
      let at : last_of (nat_eq id) (map id_of rows) ≡ i + 1
      = subst (λ (n : ℕ). last_of (nat_eq n) (map id_of rows) ≡ i + 1) same (a.last i d l t) in
      omega arith

  pub find_none : last_of (nat_eq id) (map id_of rows) ≡ 0 → has_id (picked here rows) id ≡ false
  find_none h =
      has_none here rows id e (λ k d l t.
      let none : nat_eq id (get_or (map id_of rows) k 0) ≡ false
      = none_passes (nat_eq id) (map id_of rows) h k 0 (omega (arith, length-map rows id_of)) in
      flipped (get_or rows k d).id (ap (nat_eq id) (sym (get_or-map id_of rows k d 0 (omega arith))) ∙ none))
    where
      flipped : (n : ℕ) → nat_eq id n ≡ false → nat_eq n id ≡ false
      flipped n h = grind (arith, h)

  pub last_bound : last_of (nat_eq id) (map id_of rows) ≤ length here
  last_bound = omega (arith, last_within (nat_eq id) (map id_of rows), length-map rows id_of)

  pub find_gone : (k : ℕ) → last_of (nat_eq id) (map id_of rows) ≡ suc k → get_or here k false ≡ false
      → has_id (picked here rows) id ≡ false
  find_gone k h f = has_none here rows id e (λ i d l t. by i d l t (nat_eq (get_or rows i d).id id) refl)
    where
      by : (i : ℕ) (d : Row ℕ) → i < length here → get_or here i false ≡ true → (b : Bool)
          → nat_eq (get_or rows i d).id id ≡ b → nat_eq (get_or rows i d).id id ≡ false
      by i d l t false g = g
      by i d l t true g =
          let at : i ≡ k = only_last k h i d l t (eqb-true (get_or rows i d).id id g) in
          absurd (true≢false (sym t ∙ ap (λ n. get_or here n false) at ∙ f))

  pub find_found : (k : ℕ) → last_of (nat_eq id) (map id_of rows) ≡ suc k → get_or here k false ≡ true
      → IsFound here rows id k
  find_found k h t =
      let lt : k < length here = omega (arith, last_bound) in
      record {
        within = lt;
        there = t;
        named = λ d. sym (eqb-true id (get_or rows k d).id
            (ap (nat_eq id) (sym (get_or-map id_of rows k d 0 (omega arith)))
            ∙ last_passes (nat_eq id) (map id_of rows) k 0 h));
        only = only_last k h;
      }

pub found_has : (here : List Bool) (rows : List (Row ℕ)) (id k : ℕ) → length rows ≡ length here → IsFound here rows id k
    → has_id (picked here rows) id ≡ true
found_has here rows id k e f =
    let d : Row ℕ = record { id = 0; tuple = []; amounts = [] } in
    has_one here rows id k d e f.within f.there (eq-eqb (get_or rows k d).id id (f.named d))

-- the first row with the id is that one
pub found_row : (here : List Bool) (rows : List (Row ℕ)) (id k : ℕ) (d : Row ℕ) → length rows ≡ length here
    → k < length here → get_or here k false ≡ true → (get_or rows k d).id ≡ id
    → ((i : ℕ) (d : Row ℕ) → i < length here → get_or here i false ≡ true → (get_or rows i d).id ≡ id → i ≡ k)
    → row_with_id (picked here rows) id ≡ Some (get_or rows k d)
found_row [] rows id k d e l t n o = absurd (omega arith)
found_row (b ∷ here) [] id k d e l t n o = absurd (omega arith)
found_row (true ∷ here) (row ∷ rows) id zero d e l t n o
    = ap (λ b. cond b (Some row) (row_with_id (picked here rows) id)) (eq-eqb row.id id n)
found_row (false ∷ here) (row ∷ rows) id zero d e l t n o = absurd (true≢false (sym t))
found_row (true ∷ here) (row ∷ rows) id (suc k) d e l t n o
    = by (found_row here rows id k d (omega arith) (omega arith) t n
    (λ i d l t n. omega (arith, o (suc i) d (omega arith) t n))) (nat_eq row.id id) refl
  where
    by : row_with_id (picked here rows) id ≡ Some (get_or rows k d) → (b : Bool) → nat_eq row.id id ≡ b
        → cond b (Some row) (row_with_id (picked here rows) id) ≡ Some (get_or rows k d)
    by later true f = absurd (omega (arith, o 0 row (omega arith) refl (eqb-true row.id id f)))
    by later false f = later
found_row (false ∷ here) (row ∷ rows) id (suc k) d e l t n o
    = found_row here rows id k d (omega arith) (omega arith) t n
    (λ i d l t n. omega (arith, o (suc i) d (omega arith) t n))

-- a row goes
cleared_other : (id : ℕ) (row : Row ℕ) → nat_eq row.id id ≡ false → cleared id (Some row) ≡ Some row
cleared_other id row h = ap (λ b. cond b None (Some row)) h

cleared_same : (id : ℕ) (row : Row ℕ) → nat_eq row.id id ≡ true → cleared id (Some row) ≡ None
cleared_same id row h = ap (λ b. cond b None (Some row)) h

stays : (here : List Bool) (rows : List (Row ℕ)) (id : ℕ) → length rows ≡ length here
    → ((i : ℕ) (d : Row ℕ) → i < length here → get_or here i false ≡ true → nat_eq (get_or rows i d).id id ≡ false)
    → placed here rows ≡ map (cleared id) (placed here rows)
stays [] rows id e h = refl
stays (b ∷ here) [] id e h = refl
stays (true ∷ here) (row ∷ rows) id e h
    = ap₂ (λ o l. o ∷ l) (sym (cleared_other id row (h 0 row (omega arith) refl)))
    (stays here rows id (omega arith) (λ i d l. h (suc i) d (omega arith)))
stays (false ∷ here) (row ∷ rows) id e h
    = ap (λ l. None ∷ l) (stays here rows id (omega arith) (λ i d l. h (suc i) d (omega arith)))

pub placed_goes : (here : List Bool) (rows : List (Row ℕ)) (id k : ℕ) (d : Row ℕ) → length rows ≡ length here
    → k < length here → get_or here k false ≡ true → (get_or rows k d).id ≡ id
    → ((i : ℕ) (d : Row ℕ) → i < length here → get_or here i false ≡ true → (get_or rows i d).id ≡ id → i ≡ k)
    → placed (set here k false) rows ≡ map (cleared id) (placed here rows)
placed_goes [] rows id k d e l t n o = absurd (omega arith)
placed_goes (b ∷ here) [] id k d e l t n o = absurd (omega arith)
placed_goes (true ∷ here) (row ∷ rows) id zero d e l t n o =
    ap₂ (λ o l. o ∷ l) (sym (cleared_same id row (eq-eqb row.id id n)))
    (stays here rows id (omega arith)
    (λ i d l t. ne_eqb (get_or rows i d).id id (λ f. absurd (omega (arith, o (suc i) d (omega arith) t f)))))
placed_goes (false ∷ here) (row ∷ rows) id zero d e l t n o = absurd (true≢false (sym t))
placed_goes (true ∷ here) (row ∷ rows) id (suc k) d e l t n o =
    ap₂ (λ o l. o ∷ l) (sym
    (cleared_other id row (ne_eqb row.id id (λ f. absurd (omega (arith, o 0 row (omega arith) refl f))))))
    (placed_goes here rows id k d (omega arith) (omega arith) t n
    (λ i d l t n. omega (arith, o (suc i) d (omega arith) t n)))
placed_goes (false ∷ here) (row ∷ rows) id (suc k) d e l t n o =
    ap (λ l. None ∷ l) (placed_goes here rows id k d (omega arith) (omega arith) t n
    (λ i d l t n. omega (arith, o (suc i) d (omega arith) t n)))

pub rows_cleared : (places : List (Option (Row ℕ))) (id : ℕ)
    → rows_in (map (cleared id) places) ≡ without_id (rows_in places) id
rows_cleared [] id = refl
rows_cleared (None ∷ places) id = rows_cleared places id
rows_cleared (Some row ∷ places) id = by (nat_eq row.id id) (rows_cleared places id)
  where
    by : (b : Bool) → rows_in (map (cleared id) places) ≡ without_id (rows_in places) id
        → rows_in (cond b None (Some row) ∷ map (cleared id) places)
        ≡ cond (not b) (row ∷ without_id (rows_in places) id) (without_id (rows_in places) id)
    by true h = h
    by false h = ap (λ l. row ∷ l) h
