-- The lists of cells, and the answers, under other values: the same up to the order.
use Rattle.std.proofs.Common.{false, cond, ◌≡◌, ◌↔◌, ℕ, suc, Bool, true, ◌&&◌, ◌||◌, Some, None, List, [], ◌∷◌, map, filter, length, refl}
use Rattle.std.proofs.Common.{sym, ap, ap₂, subst, ◌∙◌, true≢false, arith}
use Rattle.std.proofs.lemmas.Bool.{and_parts, and_from}
use Rattle.std.specs.declared.cmp.Ordering.{Ordering}
use Rattle.std.specs.Ordering.{eq_by_cmp}
use Rattle.std.specs.Cmp.{IsTotalOrder}
use Rattle.std.specs.FinMap.{IsAntisymmetric}
use Rattle.std.specs.List.{AllByRecursion, list_any}
use Rattle.cube_defs.specs.Cell.{Cell, leq, cell_of}
use Rattle.cube_defs.specs.Rows.{Row, Agg, covers, agg, closure}
use Rattle.cube_defs.specs.Tree.{covered, classes, nodes}
use Rattle.cube_defs.specs.Answers.{Box, Hit, in_box, range, lower_bounds}
use Rattle.cube_laws.specs.Lists.{Among}
use Rattle.cube_laws.specs.Recoding.{coded_cell, coded_tuple, coded_row, coded_box, coded_hit, TellsApart, AreKnown, RowsAreKnown}
use Rattle.cube_laws.specs.Recoding.{BoxIsKnown, known_box}
use Rattle.cube_laws.proofs.Lists.{among_filter, filter_among, among_map, map_among, all_at, all_from, always, filter_same, to_filter}
use Rattle.cube_laws.proofs.Cells.{IsEquality}
use Rattle.cube_laws.proofs.Orders.{equality_by}
use Rattle.cube_laws.proofs.Covered.{covered-is, some_covered}
use Rattle.cube_laws.proofs.Recoded.{same_test}
use Rattle.cube_laws.proofs.RecodedRows.{length-coded, covers-coded, agg-coded, is_class-coded, is_node-coded, is_lower_bound-coded}

module _ {A : Type 0} {eq : A → A → Bool} (law : IsEquality eq) (known : ℕ → A → Bool) where
  -- the values of a cell that generalizes one of known values are known
  pub known-below : (k : ℕ) (c d : Cell A) → leq eq c d ≡ true → AreKnown known k d → AreKnown known k c
  known-below k [] d h g = tt
  known-below k (e ∷ c) [] h g = absurd (true≢false (sym h))
  known-below k (None ∷ c) (None ∷ d) h g = known-below (suc k) c d h g
  known-below k (None ∷ c) (Some w ∷ d) h g = known-below (suc k) c d h g.1
  known-below k (Some v ∷ c) (None ∷ d) h g = absurd (true≢false (sym h))
  known-below k (Some v ∷ c) (Some w ∷ d) h g =
      let p = and_parts (eq v w) (leq eq c d) h in
      (subst (λ x. known k x ≡ true) (sym (law.exact v w p.0)) g.0, known-below (suc k) c d p.1 g.1)

module _ {A B : Type 0} {eq : A → A → Bool} {eq' : B → B → Bool} (law : IsEquality eq) (law' : IsEquality eq')
    (codes : ℕ → A → B) where
  -- a cell of codes less than a coded tuple is the code of a cell that generalizes the tuple
  pub decoded : (k : ℕ) (d : Cell B) (t : List A) → length d ≡ length (coded_tuple codes k t)
      → leq eq' d (cell_of (coded_tuple codes k t)) ≡ true
      → (c : Cell A) × (d ≡ coded_cell codes k c) × (length c ≡ length t) × (leq eq c (cell_of t) ≡ true)
  decoded k [] [] l h = ([], refl, refl, refl)
  decoded k [] (v ∷ t) l h = absurd (omega arith)
  decoded k (e ∷ d) [] l h = absurd (omega arith)
  decoded k (None ∷ d) (v ∷ t) l h = let r = decoded (suc k) d t (omega arith) h in
      (None ∷ r.0, ap (λ x. None ∷ x) r.1, ap suc r.2, r.3)
  decoded k (Some w ∷ d) (v ∷ t) l h =
      let p = and_parts (eq' w (codes k v)) (leq eq' d (cell_of (coded_tuple codes (suc k) t))) h in
      let r = decoded (suc k) d t (omega arith) p.1 in (
        Some v ∷ r.0,
        ap₂ (λ x y. Some x ∷ y) (law'.exact w (codes k v) p.0) r.1,
        ap suc r.2,
        and_from _ _ (law.same v) r.3,
      )

module _ {A : Type 0} {eq : A → A → Bool} (law : IsEquality eq) (known : ℕ → A → Bool) where
  -- so a cell that covers rows of known values has known values
  pub known-closed : (rows : List (Row A)) (c u : Cell A) → RowsAreKnown known rows → closure eq rows c ≡ Some u
      → AreKnown known 0 c
  known-closed rows c u h e =
      let r : (r : Row A) × Among r rows × (covers eq c r ≡ true) = some_covered eq 0 c u rows e in
      known-below law known 0 c (cell_of r.0.tuple) r.2
      (all_at (λ (r : Row A). AreKnown known 0 (cell_of r.tuple)) r.0 rows h r.1)

  any-known : (k : ℕ) (v : A) (vs : List A) → known k v ≡ true
      → list_any (eq v) (filter (known k) vs) ≡ list_any (eq v) vs
  any-known k v [] h = refl
  any-known k v (w ∷ vs) h = go (any-known k v vs h) (known k w) refl (eq v w) refl
    where
      go : list_any (eq v) (filter (known k) vs) ≡ list_any (eq v) vs → (b : Bool) → known k w ≡ b → (d : Bool)
          → eq v w ≡ d → list_any (eq v) (cond b (w ∷ filter (known k) vs) (filter (known k) vs))
          ≡ (eq v w || list_any (eq v) vs)
      go more true is d e = ap (λ x. eq v w || x) more
      go more false is true e = absurd (true≢false (sym h ∙ ap (known k) (law.exact v w e) ∙ is))
      go more false is false e = more ∙ ap (λ x. x || list_any (eq v) vs) (sym e)

  pub in_box-known : (k : ℕ) (box : Box A) (c : Cell A) → AreKnown known k c
      → in_box eq (known_box known k box) c ≡ in_box eq box c
  in_box-known k [] [] g = refl
  in_box-known k [] (e ∷ c) g = refl
  in_box-known k (a ∷ box) [] g = refl
  in_box-known k (None ∷ box) (None ∷ c) g = in_box-known (suc k) box c g
  in_box-known k (None ∷ box) (Some v ∷ c) g = refl
  in_box-known k (Some vs ∷ box) (None ∷ c) g = refl
  in_box-known k (Some vs ∷ box) (Some v ∷ c) g
      = ap₂ (λ a b. a && b) (any-known k v vs g.0) (in_box-known (suc k) box c g.1)

  pub known_box-known : (k : ℕ) (box : Box A) → BoxIsKnown known k (known_box known k box)
  known_box-known k [] = tt
  known_box-known k (None ∷ box) = known_box-known (suc k) box
  known_box-known k (Some vs ∷ box)
      = (to_filter (λ v. known k v ≡ true) (known k) vs (always _ vs (λ v h. h)), known_box-known (suc k) box)

module _ {A : Type 0} {cmp : A → A → Ordering} (total : IsTotalOrder cmp) (anti : IsAntisymmetric cmp) (known : ℕ → A
    → Bool) (rows : List (Row A)) (h : RowsAreKnown known rows) where
  covered_known : (c : Cell A) → Among c (covered cmp rows) → AreKnown known 0 c
  covered_known c m =
      let q : (r : Row A) × Among r rows × (length c ≡ length r.tuple) × (covers (eq_by_cmp cmp) c r ≡ true)
      = (covered-is total anti rows c).0 m in
      known-below (equality_by total anti) known 0 c (cell_of q.0.tuple) q.3
      (all_at (λ (r : Row A). AreKnown known 0 (cell_of r.tuple)) q.0 rows h q.1)

  -- values that are not known can be left out of a box
  pub range-known : (measures : ℕ) (box : Box A)
      → range cmp measures rows (known_box known 0 box) ≡ range cmp measures rows box
  range-known measures box =
      ap (map (λ (c : Cell A). let x : Hit A = record { cell = c; agg = agg (eq_by_cmp cmp) measures rows c } in x))
      (filter_same (in_box (eq_by_cmp cmp) (known_box known 0 box)) (in_box (eq_by_cmp cmp) box) (covered cmp rows)
      (all_from _ (covered cmp rows) (λ c m. in_box-known (equality_by total anti) known 0 box c (covered_known c m))))

length-coded_tuple : {A B : Type 0} (codes : ℕ → A → B) (k : ℕ) (t : List A) → length (coded_tuple codes k t) ≡ length t
length-coded_tuple codes k [] = refl
length-coded_tuple codes k (v ∷ t) = ap suc (length-coded_tuple codes (suc k) t)

module _ {A B : Type 0} {eq : A → A → Bool} {eq' : B → B → Bool} (law : IsEquality eq) (law' : IsEquality eq')
    {known : ℕ → A → Bool} {codes : ℕ → A → B} (tells : TellsApart known codes) where
  any-coded : (k : ℕ) (v : A) (vs : List A) → known k v ≡ true → AllByRecursion (λ w. known k w ≡ true) vs
      → list_any (eq' (codes k v)) (map (codes k) vs) ≡ list_any (eq v) vs
  any-coded k v [] h g = refl
  any-coded k v (w ∷ vs) h g = ap₂ (λ a b. a || b) (same_test law law' tells k v w h g.0) (any-coded k v vs h g.1)

  pub in_box-coded : (k : ℕ) (box : Box A) (c : Cell A) → BoxIsKnown known k box → AreKnown known k c
      → in_box eq' (coded_box codes k box) (coded_cell codes k c) ≡ in_box eq box c
  in_box-coded k [] [] h g = refl
  in_box-coded k [] (e ∷ c) h g = refl
  in_box-coded k (a ∷ box) [] h g = refl
  in_box-coded k (None ∷ box) (None ∷ c) h g = in_box-coded (suc k) box c h g
  in_box-coded k (None ∷ box) (Some v ∷ c) h g = refl
  in_box-coded k (Some vs ∷ box) (None ∷ c) h g = refl
  in_box-coded k (Some vs ∷ box) (Some v ∷ c) h g
      = ap₂ (λ a b. a && b) (any-coded k v vs g.0 h.0) (in_box-coded (suc k) box c h.1 g.1)

module _ {A B : Type 0} {cmp : A → A → Ordering} {cmp' : B → B → Ordering} (total : IsTotalOrder cmp)
    (anti : IsAntisymmetric cmp) (total' : IsTotalOrder cmp') (anti' : IsAntisymmetric cmp')
    {known : ℕ → A → Bool} {codes : ℕ → A → B} (tells : TellsApart known codes) (rows : List (Row A))
    (h : RowsAreKnown known rows) where
  law : IsEquality (eq_by_cmp cmp)
  law = equality_by total anti

  law' : IsEquality (eq_by_cmp cmp')
  law' = equality_by total' anti'

  pub known-covered : (c : Cell A) → Among c (covered cmp rows) → AreKnown known 0 c
  known-covered = covered_known total anti known rows h

  -- the cells that cover coded rows are the codes of those that cover the rows
  pub covered-coded : (d : Cell B) → Among d (covered cmp' (map (coded_row codes) rows))
      ↔ ((c : Cell A) × Among c (covered cmp rows) × (d ≡ coded_cell codes 0 c))
  covered-coded d = (
    λ m.
        let q : (r : Row B) × Among r (map (coded_row codes) rows) × (length d ≡ length r.tuple)
        × (covers (eq_by_cmp cmp') d r ≡ true) = (covered-is total' anti' (map (coded_row codes) rows) d).0 m in
        let s : (r : Row A) × Among r rows × (q.0 ≡ coded_row codes r) = among_map (coded_row codes) q.0 rows q.1 in
        let long : length d ≡ length (coded_tuple codes 0 s.0.tuple) = q.2 ∙ ap (λ (r : Row B). length r.tuple) s.2 in
        let low : leq (eq_by_cmp cmp') d (cell_of (coded_tuple codes 0 s.0.tuple)) ≡ true
        = ap (λ (r : Row B). leq (eq_by_cmp cmp') d (cell_of r.tuple)) (sym s.2) ∙ q.3 in
        let c = decoded law law' codes 0 d s.0.tuple long low in
        (c.0, (covered-is total anti rows c.0).1 (s.0, s.1, c.2, c.3), c.1),
    λ m.
        let q : (r : Row A) × Among r rows × (length m.0 ≡ length r.tuple) × (covers (eq_by_cmp cmp) m.0 r ≡ true)
        = (covered-is total anti rows m.0).0 m.1 in
        (covered-is total' anti' (map (coded_row codes) rows) d).1 (
          coded_row codes q.0,
          map_among (coded_row codes) q.0 rows q.1,
          ap length m.2 ∙ length-coded codes 0 m.0 ∙ q.2 ∙ sym (length-coded_tuple codes 0 q.0.tuple),
          ap (λ x. leq (eq_by_cmp cmp') x (cell_of (coded_tuple codes 0 q.0.tuple))) m.2
              ∙ covers-coded law law' tells m.0 q.0 (known-covered m.0 m.1)
              (all_at (λ (r : Row A). AreKnown known 0 (cell_of r.tuple)) q.0 rows h q.1)
              ∙ q.3,
        ),
  )

  -- and so are those of them that pass a test
  pub passing-coded : (p : Cell A → Bool) (p' : Cell B → Bool)
      → ((c : Cell A) → AreKnown known 0 c → p' (coded_cell codes 0 c) ≡ p c)
      → (d : Cell B) → Among d (filter p' (covered cmp' (map (coded_row codes) rows)))
      ↔ ((c : Cell A) × Among c (filter p (covered cmp rows)) × (d ≡ coded_cell codes 0 c))
  passing-coded p p' same d = (
    λ m.
        let f = filter_among p' d (covered cmp' (map (coded_row codes) rows)) m in
        let c : (c : Cell A) × Among c (covered cmp rows) × (d ≡ coded_cell codes 0 c) = (covered-coded d).0 f.0 in (
          c.0,
          among_filter p c.0 (covered cmp rows) c.1 (sym (same c.0 (known-covered c.0 c.1))
              ∙ ap p' (sym c.2) ∙ f.1),
          c.2,
        ),
    λ m.
        let f = filter_among p m.0 (covered cmp rows) m.1 in
        among_filter p' d (covered cmp' (map (coded_row codes) rows)) ((covered-coded d).1 (m.0, f.0, m.2)) (ap p' m.2
        ∙ same m.0 (known-covered m.0 f.0) ∙ f.1),
  )

  pub classes-coded : (d : Cell B) → Among d (classes cmp' (map (coded_row codes) rows))
      ↔ ((c : Cell A) × Among c (classes cmp rows) × (d ≡ coded_cell codes 0 c))
  classes-coded = passing-coded _ _ (λ c g. is_class-coded law law' tells rows h c g)

  pub nodes-coded : (d : Cell B) → Among d (nodes cmp' (map (coded_row codes) rows))
      ↔ ((c : Cell A) × Among c (nodes cmp rows) × (d ≡ coded_cell codes 0 c))
  nodes-coded = passing-coded _ _ (λ c g. is_node-coded law law' tells rows h c g)

  pub lower_bounds-coded : (u : Cell A) → AreKnown known 0 u → (d : Cell B)
      → Among d (lower_bounds cmp' (map (coded_row codes) rows) (coded_cell codes 0 u))
      ↔ ((c : Cell A) × Among c (lower_bounds cmp rows u) × (d ≡ coded_cell codes 0 c))
  lower_bounds-coded u k = passing-coded _ _ (λ c g. is_lower_bound-coded law law' tells rows h u c k g)

  -- the hits of a box of known values
  pub range-coded : (measures : ℕ) (box : Box A) → BoxIsKnown known 0 box → (hit : Hit B)
      → Among hit (range cmp' measures (map (coded_row codes) rows) (coded_box codes 0 box))
      ↔ ((found : Hit A) × Among found (range cmp measures rows box) × (hit ≡ coded_hit codes found))
  range-coded measures box k hit =
      let cells = passing-coded (in_box (eq_by_cmp cmp) box) (in_box (eq_by_cmp cmp') (coded_box codes 0 box))
      (λ c g. in_box-coded law law' tells 0 box c k g) in (
        λ m.
            let d : (d : Cell B) × Among d
            (filter (in_box (eq_by_cmp cmp') (coded_box codes 0 box)) (covered cmp' (map (coded_row codes) rows)))
            × (hit ≡ hit_at' d) = among_map hit_at' hit _ m in
            let c : (c : Cell A) × Among c (filter (in_box (eq_by_cmp cmp) box) (covered cmp rows))
            × (d.0 ≡ coded_cell codes 0 c) = (cells d.0).0 d.1 in (
              hit_at c.0,
              map_among hit_at c.0 _ c.1,
              d.2 ∙ ap hit_at' c.2
                  ∙ same_hit c.0 (filter_among (in_box (eq_by_cmp cmp) box) c.0 (covered cmp rows) c.1).0,
            ),
        λ m.
            let c : (c : Cell A) × Among c (filter (in_box (eq_by_cmp cmp) box) (covered cmp rows)) × (m.0 ≡ hit_at c)
            = among_map hit_at m.0 _ m.1 in
            let there : Among (hit_at' (coded_cell codes 0 c.0))
            (range cmp' measures (map (coded_row codes) rows) (coded_box codes 0 box))
            = map_among hit_at' (coded_cell codes 0 c.0) _ ((cells (coded_cell codes 0 c.0)).1 (c.0, c.1, refl)) in
            subst (λ x. Among x (range cmp' measures (map (coded_row codes) rows) (coded_box codes 0 box)))
            (same_hit c.0 (filter_among (in_box (eq_by_cmp cmp) box) c.0 (covered cmp rows) c.1).0
            ∙ ap (coded_hit codes) (sym c.2) ∙ sym m.2) there,
      )
    where
      hit_at : Cell A → Hit A
      hit_at c = record { cell = c; agg = agg (eq_by_cmp cmp) measures rows c }

      hit_at' : Cell B → Hit B
      hit_at' d = record { cell = d; agg = agg (eq_by_cmp cmp') measures (map (coded_row codes) rows) d }

      same_hit : (c : Cell A) → Among c (covered cmp rows) → hit_at' (coded_cell codes 0 c) ≡ coded_hit codes (hit_at c)
      same_hit c m = ap (λ (a : Agg). let x : Hit B = record { cell = coded_cell codes 0 c; agg = a } in
          x) (agg-coded law law' tells rows h measures c (known-covered c m))
