-- Rows by their numbers.
use Rattle.std.proofs.Common.{◌≡◌, ℕ, zero, suc, ◌<◌, Bool, true, false, Option, Some, None, List, [], ◌∷◌, ◌++◌, ◌&&◌, ◌==◌, ◌-◌}
use Rattle.std.proofs.Common.{get_or, filter, cond, map, slice_get, slice_index_or, is_some, refl, sym, ap, ap₂, ◌∙◌, inl, inr, arith}
use Rattle.std.proofs.Common.{true≢false, drop, eqb-true, eq-eqb, length, subst, take}
use Rattle.std.specs.Prelude.{IfSome}
use Rattle.std.proofs.lemmas.List.{take_rest}
use Rattle.std.proofs.lemmas.List.Elements.{All-drop}
use Rattle.std.proofs.lemmas.Bool.{and_parts, and_from}
use Rattle.std.proofs.lemmas.Option.{slice_get-get_or, get_or_from_slice_get}
use Rattle.std.specs.List.{AllByRecursion, cons_option, list_all}
use Rattle.cube_defs.specs.Rows.{Row}
use Rattle.cube_laws.specs.Lists.{Among}
use Rattle.cube_laws.proofs.CallerLemmas.{all_at, among_filter_map, HaveDims}
use Rattle.base_table.specs.Places.{Places, AreThere, IsRow, IsTable, named, row_at, rows_of}
use Rattle.base_table.specs.declared.table.RowNo.{RowNo}
use Rattle.cube_laws.specs.Parting.{code_in}
use Rattle.cell_closure.specs.Parts.{row_code, code_at}

pub all_recursion : {X : Type 0} (P : X → Type 0) (xs : List X) → ((k : ℕ) (d : X) → k < length xs → P (get_or xs k d))
    → AllByRecursion P xs
all_recursion P [] h = tt
all_recursion P (x ∷ xs) h = (h 0 x (omega arith), all_recursion P xs (λ k d l. h (suc k) d (omega arith)))

pub recursion_all : {X : Type 0} (P : X → Type 0) (xs : List X) → AllByRecursion P xs → (k : ℕ) (d : X) → k < length xs
    → P (get_or xs k d)
recursion_all P [] h k d l = absurd (omega arith)
recursion_all P (x ∷ xs) h zero d l = h.0
recursion_all P (x ∷ xs) h (suc k) d l = recursion_all P xs h.1 k d (omega arith)

among_place : (places : List (Option (Row ℕ))) (k : ℕ) (r : Row ℕ) → slice_index_or places k None ≡ Some r
    → Among (Some r) places
among_place [] k r e = cc
among_place (o ∷ places) zero r e = inl (sym e)
among_place (o ∷ places) (suc k) r e = inr (among_place places k r e)

-- a row that is there is one of the table's
pub is_row : (t : Places) → IsTable t → (k : ℕ) (r : Row ℕ) → row_at t k ≡ Some r → IsRow t.dims t.measures r
is_row t valid k r e =
    all_at (IsRow t.dims t.measures) r (rows_of t) (all_recursion (IsRow t.dims t.measures) (rows_of t) valid.rows.each)
    ((among_filter_map (λ place. place) r t.places).1 (Some r, among_place t.places k r e, refl))

pub named_dims : (t : Places) → IsTable t → (nos : List RowNo) → HaveDims t.dims (named t nos)
named_dims t valid [] = tt
named_dims t valid (x ∷ nos) = go (row_at t x.0) refl (named_dims t valid nos)
  where
    go : (o : Option (Row ℕ)) → row_at t x.0 ≡ o → HaveDims t.dims (named t nos)
        → HaveDims t.dims (cons_option o (named t nos))
    go None e more = more
    go (Some r) e more = ((is_row t valid x.0 r e).tuple, more)

-- each number is that of a row
abbrev pub There : Places → List RowNo → Type 0
There t nos = AllByRecursion (λ n. is_some (row_at t n.0) ≡ true) nos

pub there : (t : Places) (nos : List RowNo) → AreThere t nos → There t nos
there t nos h = all_recursion (λ n. is_some (row_at t n.0) ≡ true) nos h

-- the rows after the first are there too
pub rest_there : (t : Places) (nos : List RowNo) → AreThere t nos → AreThere t (take (length nos - 1) (drop 1 nos))
rest_there t nos h = subst (AreThere t) (sym (take_rest nos 1)) (All-drop (λ n. is_some (row_at t n.0) ≡ true) 1 nos h)

pub length-named : (t : Places) (nos : List RowNo) → There t nos → length (named t nos) ≡ length nos
length-named t [] h = refl
length-named t (x ∷ nos) h = go (row_at t x.0) h.0 (length-named t nos h.1)
  where
    go : (o : Option (Row ℕ)) → is_some o ≡ true → length (named t nos) ≡ length nos
        → length (cons_option o (named t nos)) ≡ suc (length nos)
    go None e more = absurd (true≢false (sym e))
    go (Some r) e more = ap suc more

pub named-append : (t : Places) (xs ys : List RowNo) → named t (xs ++ ys) ≡ named t xs ++ named t ys
named-append t [] ys = refl
named-append t (x ∷ xs) ys = go (row_at t x.0) (named-append t xs ys)
  where
    go : (o : Option (Row ℕ)) → named t (xs ++ ys) ≡ named t xs ++ named t ys
        → cons_option o (named t (xs ++ ys)) ≡ cons_option o (named t xs) ++ named t ys
    go None more = more
    go (Some r) more = ap (λ rs. r ∷ rs) more

pub codes_named : (t : Places) (k : ℕ) (nos : List RowNo) → There t nos
    → map (code_at t k) nos ≡ map (code_in k) (named t nos)
codes_named t k [] h = refl
codes_named t k (x ∷ nos) h = go (row_at t x.0) h.0 (codes_named t k nos h.1)
  where
    go : (o : Option (Row ℕ)) → is_some o ≡ true → map (code_at t k) nos ≡ map (code_in k) (named t nos)
        → row_code k o ∷ map (code_at t k) nos ≡ map (code_in k) (cons_option o (named t nos))
    go None e more = absurd (true≢false (sym e))
    go (Some r) e more = ap (λ vs. code_in k r ∷ vs) more

pub named-filter : (t : Places) (k v : ℕ) (nos : List RowNo)
    → named t (filter (λ n. code_at t k n == v) nos) ≡ filter (λ r. code_in k r == v) (named t nos)
named-filter t k v [] = refl
named-filter t k v (x ∷ nos) = go (row_at t x.0) refl (named-filter t k v nos)
  where
    -- whether the row is kept or not
    pick : (b : Bool) (o : Option (Row ℕ)) → row_at t x.0 ≡ o
        → named t (filter (λ n. code_at t k n == v) nos) ≡ filter (λ r. code_in k r == v) (named t nos)
        → named t (cond b (x ∷ filter (λ n. code_at t k n == v) nos) (filter (λ n. code_at t k n == v) nos))
        ≡ cond b (cons_option o (filter (λ r. code_in k r == v) (named t nos)))
        (filter (λ r. code_in k r == v) (named t nos))
    pick true o e more = ap₂ cons_option e more
    pick false o e more = more

    both : (b : Bool) (xs : List (Row ℕ)) → cond b xs xs ≡ xs
    both true xs = refl
    both false xs = refl

    go : (o : Option (Row ℕ)) → row_at t x.0 ≡ o
        → named t (filter (λ n. code_at t k n == v) nos) ≡ filter (λ r. code_in k r == v) (named t nos)
        → named t (cond (row_code k o == v) (x ∷ filter (λ n. code_at t k n == v) nos)
        (filter (λ n. code_at t k n == v) nos)) ≡ filter (λ r. code_in k r == v) (cons_option o (named t nos))
    go None e more = pick (0 == v) None e more ∙ both (0 == v) (filter (λ r. code_in k r == v) (named t nos))
    go (Some r) e more = pick (code_in k r == v) (Some r) e more

-- what a row says of its code and of its tuple
pub code_is : (o : Option (Row ℕ)) (k v : ℕ) → is_some o ≡ true → IfSome o (λ r. v ≡ slice_index_or r.tuple k 0)
    → v ≡ row_code k o
code_is None k v h e = absurd (true≢false (sym h))
code_is (Some r) k v h e = e

-- rows all of which have a code
pub all_same : (t : Places) → IsTable t → (k v : ℕ) (nos : List RowNo) → k < t.dims
    → list_all (λ n. code_at t k n == v) nos ≡ true
    → AllByRecursion (λ row. slice_get row.tuple k ≡ Some v) (named t nos)
all_same t valid k v [] lt h = tt
all_same t valid k v (x ∷ nos) lt h =
    let p = and_parts (code_at t k x == v) (list_all (λ n. code_at t k n == v) nos) h in
    go (row_at t x.0) refl (eqb-true (code_at t k x) v p.0) (all_same t valid k v nos lt p.1)
  where
    go : (o : Option (Row ℕ)) → row_at t x.0 ≡ o → row_code k o ≡ v
        → AllByRecursion (λ row. slice_get row.tuple k ≡ Some v) (named t nos)
        → AllByRecursion (λ row. slice_get row.tuple k ≡ Some v) (cons_option o (named t nos))
    go None e q more = more
    go (Some r) e q more = let l : length r.tuple ≡ t.dims = (is_row t valid x.0 r e).tuple in
        (slice_get-get_or r.tuple k 0 (omega arith) ∙ ap (λ w. Some w) q, more)

pub same_all : (t : Places) (k v : ℕ) (nos : List RowNo) → There t nos
    → AllByRecursion (λ row. slice_get row.tuple k ≡ Some v) (named t nos)
    → list_all (λ n. code_at t k n == v) nos ≡ true
same_all t k v [] h all = refl
same_all t k v (x ∷ nos) h all = go (row_at t x.0) h.0 all (same_all t k v nos h.1)
  where
    go : (o : Option (Row ℕ)) → is_some o ≡ true
        → AllByRecursion (λ row. slice_get row.tuple k ≡ Some v) (cons_option o (named t nos))
        → (AllByRecursion (λ row. slice_get row.tuple k ≡ Some v) (named t nos)
        → list_all (λ n. code_at t k n == v) nos ≡ true)
        → (row_code k o == v && list_all (λ n. code_at t k n == v) nos) ≡ true
    go None s all more = absurd (true≢false (sym s))
    go (Some r) s all more =
        and_from _ _ (eq-eqb (code_in k r) v (get_or_from_slice_get r.tuple k v 0 all.0)) (more all.1)
