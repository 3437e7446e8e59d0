-- The laws of closures.
use Rattle.std.proofs.Common.{◌≡◌, ◌↔◌, ℕ, Bool, true, false, cond, Option, Some, None, List, [], ◌∷◌, ◌++◌, map, filter, refl, sym, ap}
use Rattle.std.proofs.Common.{subst, ◌∙◌, true≢false}
use Rattle.std.specs.Cmp.{both_ways}
use Rattle.std.specs.Option.{option_eq}
use Rattle.std.specs.List.{AllByRecursion}
use Rattle.cube_defs.specs.Cell.{Cell, leq, meet, cell_eq, cell_of}
use Rattle.cube_defs.specs.Rows.{Row, covers, cov, meet_after, meet_with, meet_all, closure, is_class, agg, agg_of}
use Rattle.cube_laws.specs.Tuples.{cells_of}
use Rattle.cube_laws.proofs.Lists.{map-filter, filter_same, from_filter, to_filter, all_map, always}
use Rattle.cube_laws.proofs.Cells.{IsEquality, meet_assoc, leq_refl, leq_trans, meet_left, meet_right, meet_great, cell_eq-exact}
use Rattle.cube_laws.proofs.Cells.{cell_eq-same}

pub all_cells : {A : Type 0} (P : Cell A → Type 0) (rows : List (Row A)) → AllByRecursion P (cells_of rows)
    ↔ AllByRecursion (λ row. P (cell_of row.tuple)) rows
all_cells P [] = (λ h. h, λ h. h)
all_cells P (row ∷ rows) = (λ h. (h.0, (all_cells P rows).0 h.1), λ h. (h.0, (all_cells P rows).1 h.1))

-- the closure by the rows' cells
pub closure-cells : {A : Type 0} (eq : A → A → Bool) (rows : List (Row A)) (c : Cell A)
    → closure eq rows c ≡ meet_all eq (filter (leq eq c) (cells_of rows))
closure-cells eq rows c = ap (meet_all eq) (map-filter (λ row. cell_of row.tuple) (leq eq c) rows)

module _ {A : Type 0} {eq : A → A → Bool} (law : IsEquality eq) where
  -- a meet generalizes each of its cells, and specializes what generalizes each of them
  pub meet_after_above : (c d : Cell A) (o : Option (Cell A)) → leq eq c d ≡ true
      → ((u : Cell A) → o ≡ Some u → leq eq c u ≡ true) → leq eq c (meet_after eq d o) ≡ true
  meet_after_above c d None h k = h
  meet_after_above c d (Some u) h k = meet_great law c d u h (k u refl)

  pub meet_all_above : (c : Cell A) (cs : List (Cell A)) (u : Cell A) → AllByRecursion (λ d. leq eq c d ≡ true) cs
      → meet_all eq cs ≡ Some u → leq eq c u ≡ true
  meet_all_above c [] u h e = cc
  meet_all_above c (d ∷ cs) u h e =
      subst (λ x. leq eq c x ≡ true) (cc)
      (meet_after_above c d (meet_all eq cs) h.0 (λ w k. meet_all_above c cs w h.1 k))

  pub meet_after_below : (d : Cell A) (o : Option (Cell A)) → leq eq (meet_after eq d o) d ≡ true
  meet_after_below d None = leq_refl law d
  meet_after_below d (Some u) = meet_left law d u

  pub meet_after_rest : (d : Cell A) (o : Option (Cell A)) (u : Cell A) → o ≡ Some u
      → leq eq (meet_after eq d o) u ≡ true
  meet_after_rest d None u e = cc
  meet_after_rest d (Some w) u e = subst (λ x. leq eq (meet eq d w) x ≡ true) (cc) (meet_right law d w)

  pub meet_all_below : (cs : List (Cell A)) (u : Cell A) → meet_all eq cs ≡ Some u
      → AllByRecursion (λ d. leq eq u d ≡ true) cs
  meet_all_below [] u e = tt
  meet_all_below (d ∷ []) u e = (subst (λ x. leq eq x d ≡ true) (cc) (leq_refl law d), tt)
  meet_all_below (d ∷ f ∷ cs) u e =
      let w = meet_after eq f (meet_all eq cs) in
      let is : meet eq d w ≡ u = cc in
      let below : leq eq u w ≡ true = subst (λ x. leq eq x w ≡ true) is (meet_right law d w) in (
        subst (λ x. leq eq x d ≡ true) is (meet_left law d w),
        all_map _ _ (f ∷ cs) (λ x h. leq_trans law u w x below h) (meet_all_below (f ∷ cs) w refl),
      )

  -- c <= closure c
  pub leq-closure : (rows : List (Row A)) (c u : Cell A) → closure eq rows c ≡ Some u → leq eq c u ≡ true
  leq-closure rows c u e =
      meet_all_above c _ u (to_filter (λ d. leq eq c d ≡ true) (leq eq c) (cells_of rows)
      (always _ (cells_of rows) (λ d h. h))) (sym (closure-cells eq rows c) ∙ e)

  -- each covered row's tuple specializes the closure
  pub covered_above : (rows : List (Row A)) (c u : Cell A) → closure eq rows c ≡ Some u
      → AllByRecursion (λ d. leq eq c d ≡ true → leq eq u d ≡ true) (cells_of rows)
  covered_above rows c u e
      = from_filter (λ d. leq eq u d ≡ true) (leq eq c) (cells_of rows)
      (meet_all_below _ u (sym (closure-cells eq rows c) ∙ e))

  -- a cell and its closure cover the same rows
  pub closure_covers : (rows : List (Row A)) (c u : Cell A) → closure eq rows c ≡ Some u
      → AllByRecursion (λ d. leq eq c d ≡ leq eq u d) (cells_of rows)
  closure_covers rows c u e =
      all_map (λ d. leq eq c d ≡ true → leq eq u d ≡ true) (λ d. leq eq c d ≡ leq eq u d) (cells_of rows)
      (λ d h. both_ways _ _ h (λ k. leq_trans law c u d (leq-closure rows c u e) k)) (covered_above rows c u e)

  pub cov-closure : (rows : List (Row A)) (c u : Cell A) → closure eq rows c ≡ Some u → cov eq rows c ≡ cov eq rows u
  cov-closure rows c u e =
      filter_same (covers eq c) (covers eq u) rows
      ((all_cells (λ d. leq eq c d ≡ leq eq u d) rows).0 (closure_covers rows c u e))

  -- a closure is its own closure
  pub closure_idem : (rows : List (Row A)) (c u : Cell A) → closure eq rows c ≡ Some u → closure eq rows u ≡ Some u
  closure_idem rows c u e
      = ap (λ covered. meet_all eq (map (λ row. cell_of row.tuple) covered)) (sym (cov-closure rows c u e)) ∙ e

  -- two cells with one closure cover the same rows, so have the same aggregates
  pub cov_same : (rows : List (Row A)) (c d u : Cell A) → closure eq rows c ≡ Some u → closure eq rows d ≡ Some u
      → cov eq rows c ≡ cov eq rows d
  cov_same rows c d u e f = cov-closure rows c u e ∙ sym (cov-closure rows d u f)

  pub agg_same : (measures : ℕ) (rows : List (Row A)) (c d u : Cell A) → closure eq rows c ≡ Some u
      → closure eq rows d ≡ Some u → agg eq measures rows c ≡ agg eq measures rows d
  agg_same measures rows c d u e f = ap (agg_of measures) (cov_same rows c d u e f)

  -- a smaller cell has a smaller closure
  pub closure_mono : (rows : List (Row A)) (c d u w : Cell A) → leq eq c d ≡ true → closure eq rows c ≡ Some u
      → closure eq rows d ≡ Some w → leq eq u w ≡ true
  closure_mono rows c d u w h e f =
      meet_all_above u _ w
      (to_filter (λ x. leq eq u x ≡ true) (leq eq d) (cells_of rows)
      (all_map (λ x. leq eq c x ≡ true → leq eq u x ≡ true) _ (cells_of rows) (λ x k l. k (leq_trans law c d x h l))
      (covered_above rows c u e)))
      (sym (closure-cells eq rows d) ∙ f)

  meet_after-more : (c t : Cell A) (o : Option (Cell A))
      → meet_after eq c (Some (meet_with eq o t)) ≡ meet eq (meet_after eq c o) t
  meet_after-more c t None = refl
  meet_after-more c t (Some u) = sym (meet_assoc law c u t)

  pub meet_all-push : (cs : List (Cell A)) (t : Cell A)
      → meet_all eq (cs ++ t ∷ []) ≡ Some (meet_with eq (meet_all eq cs) t)
  meet_all-push [] t = refl
  meet_all-push (c ∷ cs) t = ap (λ o. Some (meet_after eq c o)) (meet_all-push cs t)
      ∙ ap (λ d. Some d) (meet_after-more c t (meet_all eq cs))

  -- a cell that generalizes one that covers a row covers a row
  pub meet_all_some : (c d : Cell A) (cs : List (Cell A)) (w : Cell A) → leq eq c d ≡ true
      → meet_all eq (filter (leq eq d) cs) ≡ Some w → (u : Cell A) × (meet_all eq (filter (leq eq c) cs) ≡ Some u)
  meet_all_some c d [] w h e = cc
  meet_all_some c d (x ∷ cs) w h e
      = go (meet_all_some c d cs w h) (leq eq c x) (leq eq d x) refl refl (leq_trans law c d x h) e
    where
      go : (meet_all eq (filter (leq eq d) cs) ≡ Some w → (u : Cell A) × (meet_all eq (filter (leq eq c) cs) ≡ Some u))
          → (b t : Bool) → leq eq c x ≡ b → leq eq d x ≡ t → (leq eq d x ≡ true → leq eq c x ≡ true)
          → meet_all eq (cond t (x ∷ filter (leq eq d) cs) (filter (leq eq d) cs)) ≡ Some w → (u : Cell A)
          × (meet_all eq (cond b (x ∷ filter (leq eq c) cs) (filter (leq eq c) cs)) ≡ Some u)
      go more true t above is up k = (meet_after eq x (meet_all eq (filter (leq eq c) cs)), refl)
      go more false true not_above is up k = absurd (true≢false (sym (up is) ∙ not_above))
      go more false false not_above is up k = more k

  pub closure_some : (rows : List (Row A)) (c d w : Cell A) → leq eq c d ≡ true → closure eq rows d ≡ Some w
      → (u : Cell A) × (closure eq rows c ≡ Some u)
  closure_some rows c d w h e =
      let r : (u : Cell A) × (meet_all eq (filter (leq eq c) (cells_of rows)) ≡ Some u)
      = meet_all_some c d (cells_of rows) w h (sym (closure-cells eq rows d) ∙ e) in
      (r.0, closure-cells eq rows c ∙ r.1)

  -- the test for one closure
  pub option_eq-is : (o : Option (Cell A)) (u : Cell A) → (option_eq (cell_eq eq) o (Some u) ≡ true) ↔ (o ≡ Some u)
  option_eq-is None u = (λ h. absurd (true≢false (sym h)), λ e. cc)
  option_eq-is (Some w) u
      = (
        λ h. ap (λ x. Some x) (cell_eq-exact law w u h),
        λ e. ap (λ x. option_eq (cell_eq eq) x (Some u)) e
            ∙ cell_eq-same law u,
      )

  pub is_class-is : (rows : List (Row A)) (u : Cell A) → (is_class eq rows u ≡ true) ↔ (closure eq rows u ≡ Some u)
  is_class-is rows u = option_eq-is (closure eq rows u) u
