-- The steps of the walk.
use Rattle.std.proofs.Common.{◌≡◌, ℕ, zero, suc, ◌+◌, ◌-◌, ◌<◌, ◌≤◌, true, false, Option, Some, None, List, [], ◌∷◌, ◌++◌, ◌==◌, map}
use Rattle.std.proofs.Common.{filter, flat_map, length, nat_eq, get_or, is_some, drop, drop-cons, refl, sym, ap, ap₂, subst, ◌∙◌, arith}
use Rattle.std.proofs.Common.{inl, inr, eqb-true}
use Rattle.std.specs.List.{AllByRecursion, cons_option}
use Rattle.std.specs.Ordering.{nat_cmp}
use Rattle.std.proofs.lemmas.Bool.{cond-true, cond-false}
use Rattle.std.proofs.lemmas.List.{drop_all, length-map}
use Rattle.cube_defs.specs.Cell.{Cell, cell_prefix}
use Rattle.cube_defs.specs.Rows as defs
use Rattle.cube_defs.specs.Rows.{Row, covers}
use Rattle.cube_defs.specs.Tree.{distinct}
use Rattle.cube_laws.specs.Lists.{Among}
use Rattle.cube_laws.proofs.CallerLemmas.{all_at, all_map, to_filter, filter-le, among-length, nat_equality, cell_eq-exact, IsShared}
use Rattle.cube_laws.proofs.CallerLemmas.{HaveDims, closure-shared, entry, shared_covers}
use Rattle.cell_core.specs.Entry.{IsCode}
use Rattle.base_table.specs.Places.{Places, IsRow, IsTable, named, row_at}
use Rattle.base_table.specs.declared.table.RowNo.{RowNo}
use Rattle.cube_laws.specs.Parting.{code_in, shared_by, part_at, codes_in}
use Rattle.cell_closure.specs.Parts.{no_part, code_at, with_code, parted}
use Rattle.cell_closure.proofs.CallerLemmas.{There, length-named, codes_named, named-filter, named_dims, is_row}
use Rattle.build_trace.specs.Trace.{Act, Act.{Add, Label, Mark}, acts, acts_at, part_acts}
use Rattle.build_trace.specs.Walk.{same_prefix}
use Rattle.class_builder.specs.Walk.{acts_from, prefix_acts}
use Rattle.build_trace.proofs.CallerLemmas.{has_code, part_entry, shared_among, code_among}
use Rattle.class_builder.proofs.Uppers.{AreCovered}

-- the acts in a dimension, and then those after it
pub acts_here : (t : Places) (k : ℕ) (u : Cell ℕ) (rows : List (Row ℕ)) → k < t.dims → u ≡ shared_by rows
    → acts_from t k rows ≡ acts_at (acts_from t (k + 1)) k u (entry u k) rows ++ acts_from t (k + 1) rows
unfolding acts
acts_here t k u rows h is =
    let e : t.dims - k ≡ suc (t.dims - (k + 1)) = omega arith in
    let f : suc k ≡ k + 1 = omega arith in
    ap (λ j. acts t.measures j k rows) e
    ∙ ap (λ j. acts_at (acts t.measures (t.dims - (k + 1)) j) k (shared_by rows) (entry (shared_by rows) k) rows
    ++ acts t.measures (t.dims - (k + 1)) j rows) f
    ∙ ap (λ w. acts_at (acts_from t (k + 1)) k w (entry w k) rows ++ acts_from t (k + 1) rows) (sym is)

pub acts_end : (t : Places) (k : ℕ) (rows : List (Row ℕ)) → t.dims ≤ k
    → acts_from t k rows ≡ Mark (shared_by rows) (defs.agg_of t.measures rows) ∷ []
unfolding acts
acts_end t k rows h = let e : t.dims - k ≡ 0 = omega arith in ap (λ j. acts t.measures j k rows) e

-- a part whose rows share no more before the dimension than u has, and one whose rows do
pub part_new : (more : List (Row ℕ) → List Act) (k : ℕ) (u : Cell ℕ) (v : ℕ) (rows : List (Row ℕ))
    → same_prefix k (shared_by rows) u ≡ true
    → part_acts more k u v rows ≡ prefix_acts false (shared_by rows) k v ++ more rows
part_new more k u v rows h =
    let s : cell_prefix k u ≡ cell_prefix k (shared_by rows) = sym (cell_eq-exact nat_equality _ _ h) in
    ap₂ (λ xs ys. xs ++ Label false (cell_prefix k u) k v (cell_prefix (suc k) (shared_by rows)) ∷ ys)
    (cond-true _ _ _ h) (cond-true _ _ _ h)
    ∙ ap (λ f. Add (cell_prefix (suc k) (shared_by rows)) ∷ Label false f k v (cell_prefix (suc k) (shared_by rows))
    ∷ more rows) s

pub part_old : (more : List (Row ℕ) → List Act) (k : ℕ) (u : Cell ℕ) (v : ℕ) (rows : List (Row ℕ))
    → same_prefix k (shared_by rows) u ≡ false
    → part_acts more k u v rows ≡ Label false (cell_prefix k u) k v (cell_prefix (suc k) (shared_by rows)) ∷ []
part_old more k u v rows h
    = ap₂ (λ xs ys. xs ++ Label false (cell_prefix k u) k v (cell_prefix (suc k) (shared_by rows)) ∷ ys)
    (cond-false _ _ _ h) (cond-false _ _ _ h)

-- the acts for the parts from the i-th on
abbrev pub parts_from : Places → ℕ → Cell ℕ → List (Row ℕ) → ℕ → List Act
parts_from t k u rows i
    = flat_map (λ v. part_acts (acts_from t (k + 1)) k u v (part_at k rows v)) (drop i (codes_in k rows))

-- parts

get-mapped : {X Y : Type 0} (f : X → Y) (xs : List X) (i : ℕ) (d : Y) (e : X) → i < length xs
    → get_or (map f xs) i d ≡ f (get_or xs i e)
get-mapped f [] i d e h = absurd (omega arith)
get-mapped f (x ∷ xs) zero d e h = refl
get-mapped f (x ∷ xs) (suc i) d e h = get-mapped f xs i d e (omega arith)

get_among : (xs : List ℕ) (i : ℕ) → i < length xs → Among (get_or xs i 0) xs
get_among [] i h = absurd (omega arith)
get_among (x ∷ xs) zero h = inl refl
get_among (x ∷ xs) (suc i) h = inr (get_among xs i (omega arith))

-- what a part shares has the part's code
part_code : (n k v : ℕ) (rows : List (Row ℕ)) (r : Row ℕ) → Among r (part_at k rows v) → HaveDims n rows → k < n
    → entry (shared_by (part_at k rows v)) k ≡ Some v
part_code n k v rows r a long lt =
    part_entry n k v rows (shared_by (part_at k rows v)) (shared_by (part_at k rows v)) long lt
    (closure-shared (part_at k rows v) (shared_by (part_at k rows v)) (shared_among (part_at k rows v) r a))

codes_small : (t : Places) → IsTable t → (k : ℕ) → k < t.dims → (nos : List RowNo)
    → AllByRecursion (λ r. IsCode (code_in k r)) (named t nos)
codes_small t valid k lt [] = tt
codes_small t valid k lt (x ∷ nos) = go (row_at t x.0) refl (codes_small t valid k lt nos)
  where
    go : (o : Option (Row ℕ)) → row_at t x.0 ≡ o → AllByRecursion (λ r. IsCode (code_in k r)) (named t nos)
        → AllByRecursion (λ r. IsCode (code_in k r)) (cons_option o (named t nos))
    go None e more = more
    go (Some r) e more =
        let is : IsRow t.dims t.measures r = is_row t valid x.0 r e in
        let long : length r.tuple ≡ t.dims = is.tuple in
        (is.codes k 0 (omega arith), more)

module _ (t : Places) (valid : IsTable t) (nos : List RowNo) (there : There t nos) (k : ℕ) where
  pub length-parted : length (parted t nos k) ≡ length (codes_in k (named t nos))
  length-parted = length-map (distinct nat_cmp (map (code_at t k) nos)) (with_code t nos k)
      ∙ ap (λ vs. length (distinct nat_cmp vs)) (codes_named t k nos there)

  module _ (i : ℕ) (lt : i < length (parted t nos k)) where
    abbrev part : List RowNo
    part = (get_or (parted t nos k) i no_part).rows

    abbrev code : ℕ
    code = get_or (codes_in k (named t nos)) i 0

    rows_at : part ≡ filter (λ n. code_at t k n == code) nos
    rows_at =
        let l : length (parted t nos k) ≡ length (distinct nat_cmp (map (code_at t k) nos))
        = length-map (distinct nat_cmp (map (code_at t k) nos)) (with_code t nos k) in
        ap (λ p. p.rows) (get-mapped (with_code t nos k) (distinct nat_cmp (map (code_at t k) nos)) i no_part 0
        (omega arith))
        ∙ ap (λ vs. filter (λ n. code_at t k n == get_or (distinct nat_cmp vs) i 0) nos) (codes_named t k nos there)

    pub part_named : named t part ≡ part_at k (named t nos) code
    part_named = ap (named t) rows_at ∙ named-filter t k code nos

    code_there : Among code (codes_in k (named t nos))
    code_there = let l = length-parted in get_among (codes_in k (named t nos)) i (omega arith)

    row_there : (r : Row ℕ) × Among r (part_at k (named t nos) code)
    row_there = code_among k code (named t nos) code_there

    pub part_there : There t part
    part_there = subst (There t) (sym rows_at)
        (to_filter (λ n. is_some (row_at t n.0) ≡ true) (λ n. code_at t k n == code) nos
        (all_map _ _ nos (λ n h _. h) there))

    pub part_some : 0 < length part
    part_some =
        let p : 0 < length (part_at k (named t nos) code) = among-length row_there.0 _ row_there.1 in
        let e : length (part_at k (named t nos) code) ≡ length part = ap length (sym part_named)
        ∙ length-named t part part_there in
        omega arith

    pub part_few : length part ≤ length nos
    part_few = let h = filter-le (λ n. code_at t k n == code) nos in
        let e : length part ≡ length (filter (λ n. code_at t k n == code) nos) = ap length rows_at in omega arith

    pub part_covered : (u : Cell ℕ) → IsShared (named t nos) u → AreCovered u (named t part)
    part_covered u s = subst (AreCovered u) (sym part_named)
        (to_filter (λ r. covers nat_eq u r ≡ true) (has_code k code) (named t nos)
        (all_map _ _ (named t nos) (λ r h _. h) (shared_covers (named t nos) u s)))

    pub part_value : k < t.dims → entry (shared_by (named t part)) k ≡ Some code
    part_value h = ap (λ rows. entry (shared_by rows) k) part_named
        ∙ part_code t.dims k code (named t nos) row_there.0 row_there.1 (named_dims t valid nos) h

    pub part_small : k < t.dims → IsCode code
    part_small h =
        all_at (λ r. IsCode code) row_there.0 (part_at k (named t nos) code)
        (to_filter (λ r. IsCode code) (has_code k code) (named t nos)
        (all_map (λ r. IsCode (code_in k r)) _ (named t nos)
        (λ r small has. subst IsCode (eqb-true (code_in k r) code has) small) (codes_small t valid k h nos)))
        row_there.1

    pub part_is : (get_or (parted t nos k) i no_part).code ≡ code
    part_is =
        let l : length (parted t nos k) ≡ length (distinct nat_cmp (map (code_at t k) nos))
        = length-map (distinct nat_cmp (map (code_at t k) nos)) (with_code t nos k) in
        ap (λ p. p.code) (get-mapped (with_code t nos k) (distinct nat_cmp (map (code_at t k) nos)) i no_part 0
        (omega arith))
        ∙ ap (λ vs. get_or (distinct nat_cmp vs) i 0) (codes_named t k nos there)

    pub parts_here : (u : Cell ℕ)
        → parts_from t k u (named t nos) i ≡ part_acts (acts_from t (k + 1)) k u
        (get_or (parted t nos k) i no_part).code (named t part) ++ parts_from t k u (named t nos) (i + 1)
    parts_here u =
        let l = length-parted in
        let here : i < length (codes_in k (named t nos)) = omega arith in
        let j : suc i ≡ i + 1 = omega arith in
        ap (λ vs. flat_map (λ v. part_acts (acts_from t (k + 1)) k u v (part_at k (named t nos) v)) vs)
        (drop-cons (codes_in k (named t nos)) i 0 here)
        ∙ ap (λ x. part_acts (acts_from t (k + 1)) k u code (part_at k (named t nos) code)
        ++ parts_from t k u (named t nos) x) j
        ∙ ap₂ (λ v rows. part_acts (acts_from t (k + 1)) k u v rows ++ parts_from t k u (named t nos) (i + 1))
        (sym part_is) (sym part_named)

  pub parts_end : (i : ℕ) (u : Cell ℕ) → length (parted t nos k) ≤ i → parts_from t k u (named t nos) i ≡ []
  parts_end i u h =
      let l = length-parted in
      ap (λ vs. flat_map (λ v. part_acts (acts_from t (k + 1)) k u v (part_at k (named t nos) v)) vs)
      (drop_all i (codes_in k (named t nos)) (omega arith))
