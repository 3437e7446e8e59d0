-- What stands in the lists of cells, and in which order.
use Rattle.std.proofs.Common.{◌≡◌, ◌↔◌, ℕ, Bool, true, false, cond, Some, List, [], ◌∷◌, filter, length, refl, sym, ap, subst, ◌∙◌}
use Rattle.std.specs.List.Sorted.{IsStrictlySortedBy}
use Rattle.std.proofs.lemmas.Bool.{and_parts}
use Rattle.std.specs.declared.cmp.Ordering.{Ordering}
use Rattle.std.specs.declared.cmp.Ordering.TheVariants.{Less}
use Rattle.std.specs.Ordering.{eq_by_cmp, on}
use Rattle.std.specs.Cmp.{IsTotalOrder}
use Rattle.std.specs.FinMap.{IsAntisymmetric}
use Rattle.std.specs.List.{AllByRecursion}
use Rattle.cube_defs.specs.Cell.{Cell, cell_cmp}
use Rattle.cube_defs.specs.Rows.{Row, Agg, covers, closure, has_closure, is_class, is_node, is_lower_bound, agg}
use Rattle.cube_defs.specs.Tree.{covered, classes, nodes}
use Rattle.cube_defs.specs.Answers.{Box, Hit, in_box, range, lower_bounds}
use Rattle.cube_laws.specs.Lists.{Among}
use Rattle.cube_laws.proofs.Lists.{among_filter, filter_among, among_map, map_among, all_at}
use Rattle.cube_laws.proofs.Distinct.{rises-map}
use Rattle.cube_laws.proofs.Orders.{equality_by}
use Rattle.cube_laws.proofs.Closures.{is_class-is, option_eq-is}
use Rattle.cube_laws.proofs.Covered.{covered-is, covered_rises, closure_length, some_covered, covered_some}

-- what comes before each item comes before each of those that pass
all-filter : {X : Type 0} (P : X → Type 0) (p : X → Bool) (xs : List X) → AllByRecursion P xs
    → AllByRecursion P (filter p xs)
all-filter P p [] h = tt
all-filter P p (x ∷ xs) h = go (p x) (all-filter P p xs h.1)
  where
    go : (b : Bool) → AllByRecursion P (filter p xs) → AllByRecursion P (cond b (x ∷ filter p xs) (filter p xs))
    go true more = (h.0, more)
    go false more = more

pub rises-filter : {X : Type 0} (cmp : X → X → Ordering) (p : X → Bool) (xs : List X) → IsStrictlySortedBy cmp xs
    → IsStrictlySortedBy cmp (filter p xs)
unfolding IsStrictlySortedBy
rises-filter cmp p [] h = tt
rises-filter cmp p (x ∷ xs) h = go (p x) (rises-filter cmp p xs h.1)
  where
    go : (b : Bool) → IsStrictlySortedBy cmp (filter p xs)
        → IsStrictlySortedBy cmp (cond b (x ∷ filter p xs) (filter p xs))
    go true more = (all-filter (λ y. cmp x y ≡ Less) p xs h.0, more)
    go false more = more

module _ {A : Type 0} {cmp : A → A → Ordering} (total : IsTotalOrder cmp) (anti : IsAntisymmetric cmp)
    (rows : List (Row A)) where
  pub classes_rise : IsStrictlySortedBy (cell_cmp cmp) (classes cmp rows)
  unfolding IsStrictlySortedBy
  classes_rise = rises-filter (cell_cmp cmp) (is_class (eq_by_cmp cmp) rows) (covered cmp rows)
      (covered_rises total anti rows)

  pub nodes_rise : IsStrictlySortedBy (cell_cmp cmp) (nodes cmp rows)
  unfolding IsStrictlySortedBy
  nodes_rise = rises-filter (cell_cmp cmp) (is_node (eq_by_cmp cmp) rows) (covered cmp rows)
      (covered_rises total anti rows)

  pub lower_bounds_rise : (u : Cell A) → IsStrictlySortedBy (cell_cmp cmp) (lower_bounds cmp rows u)
  unfolding IsStrictlySortedBy
  lower_bounds_rise u = rises-filter (cell_cmp cmp) (is_lower_bound (eq_by_cmp cmp) rows u) (covered cmp rows)
      (covered_rises total anti rows)

  pub range_rises : (measures : ℕ) (box : Box A)
      → IsStrictlySortedBy (on (λ (hit : Hit A). hit.cell) (cell_cmp cmp)) (range cmp measures rows box)
  unfolding IsStrictlySortedBy
  range_rises measures box =
      rises-map (λ c. let x : Hit A = record { cell = c; agg = agg (eq_by_cmp cmp) measures rows c } in
      x) (on (λ (hit : Hit A). hit.cell) (cell_cmp cmp)) (filter (in_box (eq_by_cmp cmp) box) (covered cmp rows))
      (rises-filter (cell_cmp cmp) (in_box (eq_by_cmp cmp) box) (covered cmp rows) (covered_rises total anti rows))

  module _ (n : ℕ) (long : AllByRecursion (λ r. length r.tuple ≡ n) rows) where
    -- a cell of n dimensions that covers a row is listed
    pub covered_at : (c u : Cell A) → length c ≡ n → closure (eq_by_cmp cmp) rows c ≡ Some u
        → Among c (covered cmp rows)
    covered_at c u l e =
        let r : (r : Row A) × Among r rows × (covers (eq_by_cmp cmp) c r ≡ true)
        = some_covered (eq_by_cmp cmp) n c u rows e in
        (covered-is total anti rows c).1 (r.0, r.1, l ∙ sym (all_at (λ r. length r.tuple ≡ n) r.0 rows long r.1), r.2)

    pub covered-length : (c : Cell A) → Among c (covered cmp rows) → length c ≡ n
    covered-length c m =
        let r : (r : Row A) × Among r rows × (length c ≡ length r.tuple) × (covers (eq_by_cmp cmp) c r ≡ true)
        = (covered-is total anti rows c).0 m in
        r.2 ∙ all_at (λ r. length r.tuple ≡ n) r.0 rows long r.1

    pub covered_closure : (c : Cell A) → Among c (covered cmp rows) → (u : Cell A)
        × (closure (eq_by_cmp cmp) rows c ≡ Some u)
    covered_closure c m =
        let r : (r : Row A) × Among r rows × (length c ≡ length r.tuple) × (covers (eq_by_cmp cmp) c r ≡ true)
        = (covered-is total anti rows c).0 m in
        covered_some (eq_by_cmp cmp) rows c r.0 r.1 r.3

    pub classes-is : (u : Cell A) → Among u (classes cmp rows) ↔ (is_class (eq_by_cmp cmp) rows u ≡ true)
    classes-is u = (
      λ m. (filter_among (is_class (eq_by_cmp cmp) rows) u (covered cmp rows) m).1,
      λ h.
          let e : closure (eq_by_cmp cmp) rows u ≡ Some u = (is_class-is (equality_by total anti) rows u).0 h in
          among_filter (is_class (eq_by_cmp cmp) rows) u (covered cmp rows)
          (covered_at u u (closure_length (eq_by_cmp cmp) n u u rows long e) e) h,
    )

    pub lower_bounds-is : (u c : Cell A) → Among c (lower_bounds cmp rows u)
        ↔ ((length c ≡ n) × (is_lower_bound (eq_by_cmp cmp) rows u c ≡ true))
    lower_bounds-is u c = (
      λ m. let f = filter_among (is_lower_bound (eq_by_cmp cmp) rows u) c (covered cmp rows) m in
          (covered-length c f.0, f.1),
      λ h.
          let e : closure (eq_by_cmp cmp) rows c ≡ Some u
          = (option_eq-is (equality_by total anti) (closure (eq_by_cmp cmp) rows c) u).0
          (and_parts (has_closure (eq_by_cmp cmp) rows c u) _ h.1).0 in
          among_filter (is_lower_bound (eq_by_cmp cmp) rows u) c (covered cmp rows) (covered_at c u h.0 e) h.1,
    )

    pub range-is : (measures : ℕ) (box : Box A) (hit : Hit A) → Among hit (range cmp measures rows box)
        ↔ ((length hit.cell ≡ n) × (in_box (eq_by_cmp cmp) box hit.cell ≡ true)
        × ((u : Cell A) × (closure (eq_by_cmp cmp) rows hit.cell ≡ Some u))
        × (hit.agg ≡ agg (eq_by_cmp cmp) measures rows hit.cell))
    range-is measures box hit = (
      λ m.
          let p : (c : Cell A) × Among c (filter (in_box (eq_by_cmp cmp) box) (covered cmp rows)) × (hit ≡ hit_at c)
          = among_map hit_at hit _ m in
          let f = filter_among (in_box (eq_by_cmp cmp) box) p.0 (covered cmp rows) p.1 in
          subst (λ (h : Hit A). (length h.cell ≡ n) × (in_box (eq_by_cmp cmp) box h.cell ≡ true)
          × ((u : Cell A) × (closure (eq_by_cmp cmp) rows h.cell ≡ Some u))
          × (h.agg ≡ agg (eq_by_cmp cmp) measures rows h.cell)) (sym p.2)
          (covered-length p.0 f.0, f.1, covered_closure p.0 f.0, refl),
      λ h.
          subst (λ (x : Hit A). Among x (range cmp measures rows box))
          (ap (λ (a : Agg). let x : Hit A = record { cell = hit.cell; agg = a } in x) (sym h.3))
          (map_among hit_at hit.cell _
          (among_filter (in_box (eq_by_cmp cmp) box) hit.cell (covered cmp rows)
          (covered_at hit.cell h.2.0 h.0 h.2.1) h.1)),
    )
      where
        hit_at : Cell A → Hit A
        hit_at c = record { cell = c; agg = agg (eq_by_cmp cmp) measures rows c }
