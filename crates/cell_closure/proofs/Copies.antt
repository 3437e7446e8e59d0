-- Rows whose codes and amounts lie one after another.
use Rattle.std.proofs.Common.{◌≡◌, ℕ, ℤ, zero, suc, ◌+◌, ◌*◌, ◌<◌, ◌≤◌, true, Option, Some, None, List, [], ◌∷◌, ◌++◌, length, map}
use Rattle.std.proofs.Common.{flat_map, take, drop, get_or, is_some, nat_abs, nat_eq, refl, sym, ap, ap₂, subst, ◌∙◌, arith, true≢false}
use Rattle.std.proofs.Common.{append-nil, length-append}
use Rattle.std.specs.Prelude.{IfSome}
use Rattle.std.specs.List.{All, AllByRecursion, cons_option}
use Rattle.std.proofs.lemmas.Grind.{flat_map-append}
use Rattle.std.proofs.lemmas.List.{drop-drop, drop_at, get_or-map, length-map, take_at, take_more}
use Rattle.std.proofs.lemmas.List.Sorted.{All-permutation, IsPermutation-map, length_permutation}
use Rattle.std.proofs.lemmas.Map.Keys.{IsDistinct-IsPermutation}
use Rattle.cube_defs.specs.Rows.{Row}
use Rattle.cube_defs.specs.declared.limits.TheConstants.{MAX_AMOUNT}
use Rattle.cell_core.specs.Entry.{IsCode}
use Rattle.cube_laws.specs.Lists.{Reordered}
use Rattle.cube_laws.proofs.CallerLemmas.{all_append, all_map, nat_eq-turned}
use Rattle.base_table.specs.Places.{AreRows, IsRow, IsTable, Places, named, row_at, rows_in, rows_of}
use Rattle.base_table.specs.declared.table.RowNo.{RowNo}
use Rattle.cell_closure.specs.Copies.{AreCopied, places_of}
use Rattle.cell_closure.proofs.Closing.{zeroth}
use Rattle.cell_closure.proofs.Reordering.{permuted}
use Rattle.cell_closure.proofs.Rows.{There, all_recursion, is_row, named-append}

-- the row at a place, where all places have one
abbrev pub filled : List (Row ℕ) → List (Option (Row ℕ))
filled rows = map (λ row. Some row) rows

pub rows-filled : (rows : List (Row ℕ)) → rows_in (filled rows) ≡ rows
rows-filled [] = refl
rows-filled (r ∷ rows) = ap (λ rs. r ∷ rs) (rows-filled rows)

one_more : (k n : ℕ) → suc k * n ≡ n + k * n
one_more k n = grind arith

module _ {A : Type 0} (f : Row ℕ → List A) (n : ℕ) where
  -- each row has so many
  abbrev pub HaveWidth : List (Row ℕ) → Type 0
  HaveWidth rows = AllByRecursion (λ row. length (f row) ≡ n) rows

  -- the row's own ones among those of all rows
  pub record IsLine (all : List A) (k : ℕ) (r : Row ℕ) : Type 0 where
    pub is : take n (drop (k * n) all) ≡ f r
    pub fits : k * n + n ≤ length all

  pub line_is : (rows : List (Row ℕ)) (k : ℕ) (r : Row ℕ) → HaveWidth rows → get_or (filled rows) k None ≡ Some r
      → IsLine (flat_map f rows) k r
  line_is [] k r wide h = cc
  line_is (x ∷ rows) zero r wide h =
      let same : x ≡ r = cc in
      let none : 0 * n ≡ 0 = omega arith in
      let long : length (f x) ≡ n = wide.0 in
      record {
        is = ap (λ m. take n (drop m (f x ++ flat_map f rows))) none ∙ take_at (f x) (flat_map f rows) n wide.0
            ∙ ap f same;
        fits = omega (arith, none, long, length-append (f x) (flat_map f rows));
      }
  line_is (x ∷ rows) (suc k) r wide h =
      let s = line_is rows k r wide.1 h in
      let long : length (f x) ≡ n = wide.0 in
      record {
        is = ap (λ m. take n (drop m (f x ++ flat_map f rows))) (one_more k n)
            ∙ ap (take n) (sym (drop-drop (k * n) n (f x ++ flat_map f rows))
            ∙ ap (drop (k * n)) (drop_at (f x) (flat_map f rows) n wide.0))
            ∙ s.is;
        fits = omega (arith, one_more k n, long, s.fits, length-append (f x) (flat_map f rows));
      }

-- one line more
pub line_more : {A : Type 0} (f : Row ℕ → List A) (t : Places) (nos : List RowNo) (i : ℕ) (line all more : List A)
    → i < length nos → is_some (row_at t (get_or nos i zeroth).0) ≡ true
    → IfSome (row_at t (get_or nos i zeroth).0) (λ r. line ≡ f r) → all ≡ flat_map f (named t (take i nos))
    → more ≡ all ++ line → more ≡ flat_map f (named t (take (i + 1) nos))
line_more f t nos i line all more lt here at old new =
    new ∙ ap (λ l. l ++ line) old
    ∙ go (row_at t (get_or nos i zeroth).0) here at
    ∙ sym (flat_map-append f (named t (take i nos)) (cons_option (row_at t (get_or nos i zeroth).0) []))
    ∙ ap (flat_map f) (sym (named-append t (take i nos) (get_or nos i zeroth ∷ [])))
    ∙ ap (λ l. flat_map f (named t l)) (sym (take_more nos i zeroth lt))
  where
    go : (o : Option (Row ℕ)) → is_some o ≡ true → IfSome o (λ r. line ≡ f r)
        → flat_map f (named t (take i nos)) ++ line ≡ flat_map f (named t (take i nos)) ++ flat_map f (cons_option o [])
    go None h e = absurd (true≢false (sym h))
    go (Some r) h e = ap (λ l. flat_map f (named t (take i nos)) ++ l) (e ∙ sym (append-nil (f r)))

-- a table's rows in another order are those of a table without empty places
pub is_table : (t : Places) → IsTable t → (rows : List (Row ℕ)) → Reordered (rows_of t) rows
    → IsTable (places_of t.dims t.measures rows)
is_table t v rows h =
    let p = permuted (rows_of t) rows h in
    let most : t.max ≤ 1000000 = v.few_rows in
    let len : length rows ≡ length (rows_of t) = length_permutation (rows_of t) rows p in
    let few : length rows ≤ 1000000 = omega (arith, v.rows.few) in
    record {
      some_dims = v.some_dims;
      few_dims = v.few_dims;
      few_measures = v.few_measures;
      some_rows = let some : 0 < 1000000 = omega arith in some;
      few_rows = let same : 1000000 ≤ 1000000 = omega arith in same;
      few_places = omega (arith, length-map rows (λ (row : Row ℕ). Some row));
      rows = subst (AreRows t.dims t.measures 1000000) (sym (rows-filled rows)) (record {
        few = few;
        each = All-permutation (IsRow t.dims t.measures) (rows_of t) rows p v.rows.each;
        distinct = IsDistinct-IsPermutation nat_eq nat_eq-turned (map (λ (row : Row ℕ). row.id) (rows_of t))
            (map (λ (row : Row ℕ). row.id) rows) (IsPermutation-map (λ (row : Row ℕ). row.id) (rows_of t) rows p)
            v.rows.distinct;
      });
      were = tt;
    }

-- the copy of rows with their numbers
pub copied_are : (t : Places) → IsTable t → (nos : List RowNo) (dims measures count : ℕ) (codes : List ℕ)
    (amounts : List ℤ) (rows : List (Row ℕ)) → rows ≡ named t nos → dims ≡ t.dims → measures ≡ t.measures
    → count ≡ length (rows_of t) → Reordered (rows_of t) (named t nos)
    → codes ≡ flat_map (λ row. row.tuple) (named t nos) → amounts ≡ flat_map (λ row. row.amounts) (named t nos)
    → AreCopied dims measures count codes amounts rows
copied_are t v nos dims measures count codes amounts rows e d m n h tuples values = record {
  table = subst (λ rs. IsTable (places_of dims measures rs)) (sym e)
      (subst (λ k. IsTable (places_of dims k (named t nos))) (sym m)
      (subst (λ k. IsTable (places_of k t.measures (named t nos))) (sym d) (is_table t v (named t nos) h)));
  len = n ∙ sym (length_permutation (rows_of t) (named t nos) (permuted (rows_of t) (named t nos) h))
      ∙ ap length (sym e);
  tuples = tuples ∙ ap (flat_map (λ row. row.tuple)) (sym e);
  values = values ∙ ap (flat_map (λ row. row.amounts)) (sym e);
}

module _ (dims measures count : ℕ) (codes : List ℕ) (amounts : List ℤ) (rows : List (Row ℕ))
    (copied : AreCopied dims measures count codes amounts rows) (t : Places)
    (view : ◌≡◌ {A = Places} (places_of dims measures rows) t) where
  valid : IsTable t
  valid = subst IsTable view copied.table

  each_row : AllByRecursion (IsRow dims measures) rows
  each_row = subst (AllByRecursion (IsRow dims measures)) (rows-filled rows)
      (all_recursion (IsRow dims measures) (rows_in (filled rows)) copied.table.rows.each)

  pub rows_are : rows_of t ≡ rows
  rows_are = sym (ap rows_of view) ∙ rows-filled rows

  tuple_line : (k : ℕ) (r : Row ℕ) → row_at t k ≡ Some r → IsLine (λ row. row.tuple) dims codes k r
  tuple_line k r e = subst (λ all. IsLine (λ row. row.tuple) dims all k r) (sym copied.tuples)
      (line_is (λ row. row.tuple) dims rows k r
      (all_map (IsRow dims measures) (λ row. length row.tuple ≡ dims) rows (λ row is. is.tuple) each_row)
      (ap (λ (s : Places). row_at s k) view ∙ e))

  amounts_line : (k : ℕ) (r : Row ℕ) → row_at t k ≡ Some r → IsLine (λ row. row.amounts) measures amounts k r
  amounts_line k r e = subst (λ all. IsLine (λ row. row.amounts) measures all k r) (sym copied.values)
      (line_is (λ row. row.amounts) measures rows k r
      (all_map (IsRow dims measures) (λ row. length row.amounts ≡ measures) rows (λ row is. is.amounts) each_row)
      (ap (λ (s : Places). row_at s k) view ∙ e))

  module _ (k : ℕ) (here : is_some (row_at t k) ≡ true) where
    pub tuple_fits : k * dims + dims ≤ length codes
    tuple_fits = go (row_at t k) refl here
      where
        go : (o : Option (Row ℕ)) → row_at t k ≡ o → is_some o ≡ true → k * dims + dims ≤ length codes
        go None e h = absurd (true≢false (sym h))
        go (Some r) e h = (tuple_line k r e).fits

    pub tuple_is : (line : List ℕ) → line ≡ take dims (drop (k * dims) codes)
        → IfSome (row_at t k) (λ r. line ≡ r.tuple)
    tuple_is line is = go (row_at t k) refl here
      where
        go : (o : Option (Row ℕ)) → row_at t k ≡ o → is_some o ≡ true → IfSome o (λ r. line ≡ r.tuple)
        go None e h = absurd (true≢false (sym h))
        go (Some r) e h = is ∙ (tuple_line k r e).is

    pub tuple_small : (line : List ℕ) → line ≡ take dims (drop (k * dims) codes) → All IsCode line
    tuple_small line is = go (row_at t k) refl here
      where
        go : (o : Option (Row ℕ)) → row_at t k ≡ o → is_some o ≡ true → All IsCode line
        go None e h = absurd (true≢false (sym h))
        go (Some r) e h = subst (All IsCode) (sym (is ∙ (tuple_line k r e).is)) (is_row t valid k r e).codes

    pub amounts_fit : k * measures + measures ≤ length amounts
    amounts_fit = go (row_at t k) refl here
      where
        go : (o : Option (Row ℕ)) → row_at t k ≡ o → is_some o ≡ true → k * measures + measures ≤ length amounts
        go None e h = absurd (true≢false (sym h))
        go (Some r) e h = (amounts_line k r e).fits

    pub amounts_are : (line : List ℤ) → line ≡ take measures (drop (k * measures) amounts)
        → IfSome (row_at t k) (λ r. line ≡ r.amounts)
    amounts_are line is = go (row_at t k) refl here
      where
        go : (o : Option (Row ℕ)) → row_at t k ≡ o → is_some o ≡ true → IfSome o (λ r. line ≡ r.amounts)
        go None e h = absurd (true≢false (sym h))
        go (Some r) e h = is ∙ (amounts_line k r e).is

    pub amounts_small : (line : List ℤ) → line ≡ take measures (drop (k * measures) amounts)
        → All (λ a. nat_abs a ≤ MAX_AMOUNT) line
    amounts_small line is = go (row_at t k) refl here
      where
        go : (o : Option (Row ℕ)) → row_at t k ≡ o → is_some o ≡ true → All (λ a. nat_abs a ≤ MAX_AMOUNT) line
        go None e h = absurd (true≢false (sym h))
        go (Some r) e h = subst (All (λ a. nat_abs a ≤ MAX_AMOUNT)) (sym (is ∙ (amounts_line k r e).is))
            (is_row t valid k r e).small

  -- the numbers so far, and the next one
  module _ (nos more : List RowNo) (k : ℕ) (lt : k < count) (new : more ≡ nos ++ record { 0 = k } ∷ []) where
    none : Row ℕ
    none = record { id = 0; tuple = []; amounts = [] }

    within : k < length rows
    within = omega (arith, copied.len)

    here : row_at t k ≡ Some (get_or rows k none)
    here = sym (ap (λ (s : Places). row_at s k) view) ∙ get_or-map (λ (row : Row ℕ). Some row) rows k none None within

    pub listed_more : named t nos ≡ take k (rows_of t) → named t more ≡ take (k + 1) (rows_of t)
    listed_more old =
        ap (named t) new ∙ named-append t nos (record { 0 = k } ∷ [])
        ∙ ap₂ (λ (l : List (Row ℕ)) (o : Option (Row ℕ)). l ++ cons_option o []) (old ∙ ap (take k) rows_are) here
        ∙ sym (take_more rows k none within)
        ∙ ap (take (k + 1)) (sym rows_are)

    pub there_more : There t nos → There t more
    there_more old = subst (There t) (sym new)
        (all_append (λ n. is_some (row_at t n.0) ≡ true) nos (record { 0 = k } ∷ []) old (ap is_some here, tt))
