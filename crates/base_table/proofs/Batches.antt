-- What a change of the rows or the end of a batch leaves.
use Rattle.std.proofs.Common.{◌≡◌, ℕ, ◌+◌, ◌<◌, ◌≤◌, Bool, true, false, cond, if◌then◌else◌, List, [], ◌∷◌, ◌++◌, length, take, map, filter}
use Rattle.std.proofs.Common.{get_or, set, refl, ap, ap₂, sym, ◌∙◌, subst, arith, zero, suc, nat_eq, nat_lt, true≢false, length-append, inl}
use Rattle.std.proofs.Common.{inr}
use Rattle.std.specs.List.{All, AllByRecursion, IsDistinct}
use Rattle.std.proofs.lemmas.Bool.{eq-eqb, cases_lt, lt-ltb, le-ltb, ne_eqb}
use Rattle.std.proofs.lemmas.Bool.Decides.{eqb_tells}
use Rattle.std.proofs.lemmas.List.{get_or-set_same, get_or-set_other, get_or_append_left, get_or_push, get_or-take, length-map, length-set}
use Rattle.std.proofs.lemmas.List.{get_or-map, map-append, set-set, set-get_or, set_comm, take-set-le}
use Rattle.std.proofs.lemmas.List.Elements.{All-push}
use Rattle.std.proofs.lemmas.List.Sums.{fold_push}
use Rattle.std.proofs.lemmas.Map.Keys.{IsDistinct-cons, IsDistinct-from_apart, IsDistinct-head, IsDistinct-tail}
use Rattle.cube_defs.specs.Rows.{Row}
use Rattle.base_table.specs.Last.{last_of, picked}
use Rattle.base_table.specs.Places.{has_id}
use Rattle.base_table.specs.Store.{AreLast, id_of, marks_then, restored}
use Rattle.base_table.proofs.Chain.{last_push}
use Rattle.base_table.proofs.Placed.{length-set_marks, no_row}

-- the rows here have distinct ids
absent : (here : List Bool) (rows : List (Row ℕ)) (id : ℕ)
    → ((i : ℕ) (d : Row ℕ) → i < length here → i < length rows → get_or here i false ≡ true
    → nat_eq id (get_or rows i d).id ≡ false) → AllByRecursion (λ y. nat_eq id y ≡ false) (map id_of (picked here rows))
absent [] rows id h = tt
absent (b ∷ here) [] id h = tt
absent (true ∷ here) (row ∷ rows) id h
    = (
      h 0 row (omega arith) (omega arith) refl,
      absent here rows id (λ i d l m. h (suc i) d (omega arith) (omega arith)),
    )
absent (false ∷ here) (row ∷ rows) id h = absent here rows id (λ i d l m. h (suc i) d (omega arith) (omega arith))

abbrev Apart : List Bool → List (Row ℕ) → Type 0
Apart here rows = (i j : ℕ) (d : Row ℕ) → i < length here → j < length here → get_or here i false ≡ true
    → get_or here j false ≡ true → (get_or rows i d).id ≡ (get_or rows j d).id → i ≡ j

apart : (here : List Bool) (rows : List (Row ℕ)) → AreLast here rows → Apart here rows
apart here rows a = λ i j d li lj hi hj e.
    let one : last_of (nat_eq (get_or rows i d).id) (map id_of rows) ≡ i + 1 = a.last i d li hi in
    let two : last_of (nat_eq (get_or rows i d).id) (map id_of rows) ≡ j + 1
    = subst (λ n. last_of (nat_eq n) (map id_of rows) ≡ j + 1) (sym e) (a.last j d lj hj) in
    omega (arith, one, two)

none_distinct : IsDistinct nat_eq []
none_distinct = IsDistinct-from_apart nat_eq [] (λ i j d l m. absurd (omega arith))

apart_distinct : (here : List Bool) (rows : List (Row ℕ)) → Apart here rows
    → IsDistinct nat_eq (map id_of (picked here rows))
apart_distinct [] rows a = none_distinct
apart_distinct (b ∷ here) [] a = none_distinct
apart_distinct (true ∷ here) (row ∷ rows) a =
    IsDistinct-cons nat_eq row.id (map id_of (picked here rows))
    (absent here rows row.id
    (λ i d l m t. ne_eqb row.id (get_or rows i d).id
    (λ e. absurd (omega (arith, a 0 (suc i) d (omega arith) (omega arith) refl t e)))))
    (apart_distinct here rows
    (λ i j d li lj hi hj e. omega (arith, a (suc i) (suc j) d (omega arith) (omega arith) hi hj e)))
apart_distinct (false ∷ here) (row ∷ rows) a
    = apart_distinct here rows
    (λ i j d li lj hi hj e. omega (arith, a (suc i) (suc j) d (omega arith) (omega arith) hi hj e))

pub distinct_ids : (here : List Bool) (rows : List (Row ℕ)) → AreLast here rows
    → IsDistinct nat_eq (map id_of (picked here rows))
distinct_ids here rows a = apart_distinct here rows (apart here rows a)

no_last : (id : ℕ) (ids : List ℕ) → AllByRecursion (λ y. nat_eq id y ≡ false) ids → last_of (nat_eq id) ids ≡ 0
no_last id [] h = refl
no_last id (x ∷ ids) h = grind (arith, h.0, no_last id ids h.1)

first_last : (id : ℕ) (ids : List ℕ) → last_of (nat_eq id) ids ≡ 0 → last_of (nat_eq id) (id ∷ ids) ≡ 1
first_last id ids h = grind (arith, h, eq-eqb id id refl)

later_last : (id x i : ℕ) (ids : List ℕ) → last_of (nat_eq id) ids ≡ i + 1 → last_of (nat_eq id) (x ∷ ids) ≡ suc i + 1
later_last id x i ids h = grind (arith, h)

last_distinct : (ids : List ℕ) → IsDistinct nat_eq ids → (k : ℕ) → k < length ids
    → last_of (nat_eq (get_or ids k 0)) ids ≡ k + 1
last_distinct [] h k l = absurd (omega arith)
last_distinct (x ∷ ids) h zero l = first_last x ids (no_last x ids (IsDistinct-head nat_eq x ids h))
last_distinct (x ∷ ids) h (suc k) l
    = later_last (get_or ids k 0) x k ids (last_distinct ids (IsDistinct-tail nat_eq x ids h) k (omega arith))

-- once the empty places are taken away
pub last_packed : (here : List Bool) (rows : List (Row ℕ)) → length rows ≡ length here → AreLast here rows
    → AreLast (filter (λ b. b) here) (picked here rows)
last_packed here rows e a = record {
  last = λ k d l t.
      let lt : k < length (picked here rows) = omega (arith, length-set_marks here rows e) in
      let at : get_or (map id_of (picked here rows)) k 0 ≡ (get_or (picked here rows) k d).id
      = get_or-map id_of (picked here rows) k d 0 lt in
      subst (λ n. last_of (nat_eq n) (map id_of (picked here rows)) ≡ k + 1) at
      (last_distinct (map id_of (picked here rows)) (distinct_ids here rows a) k
      (omega (arith, length-map (picked here rows) id_of)));
}

-- a row more
pub last_pushed : (here : List Bool) (rows : List (Row ℕ)) (row : Row ℕ) → length rows ≡ length here
    → has_id (picked here rows) row.id ≡ false → AreLast here rows → AreLast (here ++ true ∷ []) (rows ++ row ∷ [])
last_pushed here rows row e new a = record {
  last = λ k d l t. elim (cases_lt k (length here)) [
    | inl lt ↦
        let o : get_or (rows ++ row ∷ []) k d ≡ get_or rows k d
        = get_or_append_left rows (row ∷ []) d k (omega arith) in
        let h : get_or here k false ≡ true = sym (get_or_append_left here (true ∷ []) false k lt) ∙ t in
        subst (λ (r : Row ℕ). last_of (nat_eq r.id) (map id_of (rows ++ row ∷ [])) ≡ k + 1) (sym o)
        (ap (last_of (nat_eq (get_or rows k d).id)) (map-append id_of rows (row ∷ []))
        ∙ last_push (nat_eq (get_or rows k d).id) (map id_of rows) row.id
        ∙ ap (λ (b : Bool). cond b (suc (length (map id_of rows)))
        (last_of (nat_eq (get_or rows k d).id) (map id_of rows))) (no_row here rows row.id e new k d lt h)
        ∙ a.last k d lt h)
    | inr ge ↦
        let at : length rows ≡ k = omega (arith, length-append here (true ∷ [])) in
        let o : get_or (rows ++ row ∷ []) k d ≡ row = get_or_push rows row d k at in
        subst (λ (r : Row ℕ). last_of (nat_eq r.id) (map id_of (rows ++ row ∷ [])) ≡ k + 1) (sym o)
        (ap (last_of (nat_eq row.id)) (map-append id_of rows (row ∷ []))
        ∙ last_push (nat_eq row.id) (map id_of rows) row.id
        ∙ ap (λ (b : Bool). cond b (suc (length (map id_of rows))) (last_of (nat_eq row.id) (map id_of rows)))
        (eq-eqb row.id row.id refl)
        ∙ omega (arith, length-map rows id_of))
  ];
}

-- a row fewer
pub last_fewer : (here : List Bool) (rows : List (Row ℕ)) (k : ℕ) → k < length here → AreLast here rows
    → AreLast (set here k false) rows
last_fewer here rows k lt a = record {
  last = λ i d l t. elim (eqb_tells i k) [
    | inl s ↦ absurd (true≢false (sym t ∙ ap (λ n. get_or (set here k false) n false) s.1
        ∙ get_or-set_same here k false false lt))
    | inr s ↦ a.last i d (omega (arith, length-set here k false)) (sym (get_or-set_other here k i false false s.1) ∙ t)
  ];
}

-- marks that were cleared since
pub length-restored : (touched : List ℕ) (here : List Bool) → length (restored touched here) ≡ length here
length-restored [] here = refl
length-restored (k ∷ touched) here = length-restored touched (set here k true) ∙ length-set here k true

set_either : (here : List Bool) (i k : ℕ) → set (set here i true) k true ≡ set (set here k true) i true
set_either here i k = elim (eqb_tells i k) [
  | inl s ↦ ap₂ (λ m n. set (set here m true) n true) s.1 (sym s.1)
  | inr s ↦ set_comm here i k true true s.1
]

restored-set : (touched : List ℕ) (here : List Bool) (k : ℕ)
    → restored touched (set here k true) ≡ set (restored touched here) k true
restored-set [] here k = refl
restored-set (i ∷ touched) here k = ap (restored touched) (set_either here k i)
    ∙ restored-set touched (set here i true) k

restored_back : (touched : List ℕ) (here : List Bool) (k : ℕ) → get_or here k false ≡ true
    → restored (touched ++ k ∷ []) (set here k false) ≡ restored touched here
restored_back touched here k t =
    fold_push (λ (marks : List Bool) (i : ℕ). set marks i true) (set here k false) touched k
    ∙ sym (restored-set touched (set here k false) k)
    ∙ ap (restored touched) (set-set here k false true ∙ ap (set here k) (sym t) ∙ set-get_or here k false)

take-set_any : {A : Type 0} (n : ℕ) (xs : List A) (k : ℕ) (x : A) → take n (set xs k x) ≡ set (take n xs) k x
take-set_any zero xs k x = refl
take-set_any (suc n) [] k x = refl
take-set_any (suc n) (y ∷ xs) zero x = refl
take-set_any (suc n) (y ∷ xs) (suc k) x = ap (λ l. y ∷ l) (take-set_any n xs k x)

-- the places of a batch with one that goes
abbrev pub noted : List ℕ → ℕ → ℕ → List ℕ
noted touched k begun = if nat_lt k begun then touched ++ k ∷ [] else touched

-- the marks at the begin don't see a row that goes
pub marks_stay : (here : List Bool) (touched : List ℕ) (begun k : ℕ) → get_or here k false ≡ true
    → marks_then (set here k false) (noted touched k begun) begun ≡ marks_then here touched begun
marks_stay here touched begun k t = elim (cases_lt k begun) [
  | inl lt ↦
      ap (λ b. restored (cond b (touched ++ k ∷ []) touched) (take begun (set here k false))) (lt-ltb k begun lt)
      ∙ ap (restored (touched ++ k ∷ [])) (take-set_any begun here k false)
      ∙ restored_back touched (take begun here) k (get_or-take begun here k false lt ∙ t)
  | inr ge ↦
      ap (λ b. restored (cond b (touched ++ k ∷ []) touched) (take begun (set here k false))) (le-ltb k begun ge)
      ∙ ap (restored touched) (take-set-le begun here k false ge)
]

pub noted_below : (touched : List ℕ) (begun k : ℕ) → All (λ i. i < begun) touched
    → All (λ i. i < begun) (noted touched k begun)
noted_below touched begun k h = elim (cases_lt k begun) [
  | inl lt ↦ subst (λ b. All (λ i. i < begun) (cond b (touched ++ k ∷ []) touched)) (sym (lt-ltb k begun lt))
      (All-push (λ i. i < begun) touched k h lt)
  | inr ge ↦ subst (λ b. All (λ i. i < begun) (cond b (touched ++ k ∷ []) touched)) (sym (le-ltb k begun ge)) h
]

pub length-noted : (touched : List ℕ) (begun k : ℕ) → length (noted touched k begun) ≤ length touched + 1
length-noted touched begun k = elim (cases_lt k begun) [
  | inl lt ↦ subst (λ b. length (cond b (touched ++ k ∷ []) touched) ≤ length touched + 1) (sym (lt-ltb k begun lt))
      (omega (arith, length-append touched (k ∷ [])))
  | inr ge ↦ subst (λ b. length (cond b (touched ++ k ∷ []) touched) ≤ length touched + 1)
      (sym (le-ltb k begun ge)) (omega arith)
]
