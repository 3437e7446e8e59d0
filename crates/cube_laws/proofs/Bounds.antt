-- The upper bounds are the meets of some rows.
use Rattle.std.proofs.Common.{sym, subst, ◌↔◌, length, refl, inr, ◌≡◌, Bool, true, Some, List, [], ◌∷◌, ap, ◌∙◌, inl}
use Rattle.std.specs.List.{AllByRecursion}
use Rattle.cube_defs.specs.Cell.{Cell, leq, cell_of}
use Rattle.cube_defs.specs.Rows.{Row, covers, cov, closure, meet_all, is_class}
use Rattle.cube_laws.specs.Lists.{Among}
use Rattle.cube_laws.proofs.Lists.{all_at, all_from, filter_among}
use Rattle.cube_laws.proofs.Cells.{IsEquality, leq_antisymm, leq_refl, tuple-leq}
use Rattle.cube_laws.specs.Tuples.{cells_of}
use Rattle.cube_laws.proofs.Closures.{all_cells, meet_all_above, meet_all_below, covered_above, leq-closure, is_class-is}
use Rattle.cube_laws.proofs.Covered.{covered_some}

module _ {A : Type 0} {eq : A → A → Bool} (law : IsEquality eq) where
  -- the closure of what some of the rows share is that again
  pub meet-class : (rows some : List (Row A)) (u : Cell A) → ((r : Row A) → Among r some → Among r rows)
      → meet_all eq (cells_of some) ≡ Some u → is_class eq rows u ≡ true
  meet-class rows [] u within e = cc
  meet-class rows (s ∷ some) u within e =
      let below : AllByRecursion (λ row. leq eq u (cell_of row.tuple) ≡ true) (s ∷ some)
      = (all_cells (λ d. leq eq u d ≡ true) (s ∷ some)).0 (meet_all_below law (cells_of (s ∷ some)) u e) in
      let c : (w : Cell A) × (closure eq rows u ≡ Some w) = covered_some eq rows u s (within s (inl refl)) below.0 in
      let above : AllByRecursion (λ row. leq eq u (cell_of row.tuple) ≡ true
      → leq eq c.0 (cell_of row.tuple) ≡ true) rows
      = (all_cells (λ d. leq eq u d ≡ true → leq eq c.0 d ≡ true) rows).0 (covered_above law rows u c.0 c.1) in
      let great : leq eq c.0 u ≡ true =
      meet_all_above law c.0 (cells_of (s ∷ some)) u
      ((all_cells (λ d. leq eq c.0 d ≡ true) (s ∷ some)).1 (all_from _ (s ∷ some) (λ x m.
      all_at (λ row. leq eq u (cell_of row.tuple) ≡ true → leq eq c.0 (cell_of row.tuple) ≡ true) x rows above
      (within x m) (all_at (λ row. leq eq u (cell_of row.tuple) ≡ true) x (s ∷ some) below m)))) e in
      (is_class-is law rows u).1 (c.1
      ∙ ap (λ x. Some x) (leq_antisymm law c.0 u great (leq-closure law rows u c.0 c.1)))

  -- and an upper bound is what the rows share that it covers
  pub class-meet : (rows : List (Row A)) (u : Cell A) → is_class eq rows u ≡ true → (some : List (Row A))
      × ((r : Row A) → Among r some → Among r rows) × (meet_all eq (cells_of some) ≡ Some u)
  class-meet rows u h = (cov eq rows u, λ r m. (filter_among (covers eq u) r rows m).0, (is_class-is law rows u).0 h)

  -- a row's tuple is an upper bound
  pub tuple-class : (rows : List (Row A)) (r : Row A) → Among r rows → is_class eq rows (cell_of r.tuple) ≡ true
  tuple-class rows r m = meet-class rows (r ∷ []) (cell_of r.tuple)
      (λ x k. elim k [ inl e ↦ subst (λ y. Among y rows) (sym e) m | inr k ↦ absurd k ]) refl

  pub tuple-covers : (t : List A) (r : Row A) → length t ≡ length r.tuple → (covers eq (cell_of t) r ≡ true)
      ↔ (t ≡ r.tuple)
  tuple-covers t r l = (
    tuple-leq law t r.tuple l,
    λ e. subst (λ s. leq eq (cell_of t) (cell_of s) ≡ true) e (leq_refl law (cell_of t)),
  )
