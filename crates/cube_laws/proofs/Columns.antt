-- The closure is what the covered rows share.
use Rattle.std.proofs.Common.{◌≡◌, ◌↔◌, ℕ, zero, suc, Bool, true, Option, Some, None, List, [], ◌∷◌, refl, ap, slice_get, arith}
use Rattle.std.proofs.lemmas.Bool.{and_parts, and_from}
use Rattle.std.specs.List.{AllByRecursion}
use Rattle.cube_defs.specs.Cell.{Cell, entry_leq, leq, cell_of}
use Rattle.cube_defs.specs.Rows.{Row, covers, cov, meet_all, closure}
use Rattle.cube_laws.proofs.Cells.{IsEquality, leq_trans}
use Rattle.cube_laws.specs.Lists.{Among}
use Rattle.cube_laws.proofs.Covered.{some_covered, covered_some}
use Rattle.cube_laws.proofs.Lists.{all_map, all_at, all_from, filter_among}
use Rattle.cube_laws.specs.Tuples.{cells_of}
use Rattle.cube_laws.proofs.Closures.{all_cells, covered_above, meet_all_above, meet_all_below}

module _ {A : Type 0} where
  -- the cell with one value, in its last dimension
  abbrev pub one_value : ℕ → A → Cell A
  one_value zero v = Some v ∷ []
  one_value (suc i) v = None ∷ one_value i v

  pub slice_get-cell_of : (t : List A) (i : ℕ) (v : A) → (slice_get (cell_of t) i ≡ Some (Some v))
      ↔ (slice_get t i ≡ Some v)
  slice_get-cell_of [] i v = (λ h. cc, λ h. cc)
  slice_get-cell_of (x ∷ t) zero v = (λ h. cc, λ h. cc)
  slice_get-cell_of (x ∷ t) (suc i) v = slice_get-cell_of t i v

module _ {A : Type 0} {eq : A → A → Bool} (law : IsEquality eq) where
  pub entry_of_leq : (v : A) (f : Option A) → entry_leq eq (Some v) f ≡ true → f ≡ Some v
  entry_of_leq v f h = grind (arith, law.exact)

  pub leq_of_entry : (v : A) (f : Option A) → f ≡ Some v → entry_leq eq (Some v) f ≡ true
  leq_of_entry v f h = grind (arith, law.same)

  pub one_value-leq : (i : ℕ) (v : A) (d : Cell A) → (leq eq (one_value i v) d ≡ true) ↔ (slice_get d i ≡ Some (Some v))
  one_value-leq zero v [] = (λ h. cc, λ h. cc)
  one_value-leq (suc i) v [] = (λ h. cc, λ h. cc)
  one_value-leq zero v (f ∷ d)
      = (
        λ h. ap (λ x. Some x) (entry_of_leq v f (and_parts (entry_leq eq (Some v) f) true h).0),
        λ h. and_from _ _ (leq_of_entry v f (cc)) refl,
      )
  one_value-leq (suc i) v (f ∷ d) = one_value-leq i v d

  meet_all-entry : (cs : List (Cell A)) (u : Cell A) (i : ℕ) (v : A) → meet_all eq cs ≡ Some u
      → (slice_get u i ≡ Some (Some v)) ↔ AllByRecursion (λ d. slice_get d i ≡ Some (Some v)) cs
  meet_all-entry cs u i v e = (
    λ h. all_map _ _ cs (λ d k. (one_value-leq i v d).0
        (leq_trans law (one_value i v) u d ((one_value-leq i v u).1 h) k)) (meet_all_below law cs u e),
    λ h. (one_value-leq i v u).0
        (meet_all_above law (one_value i v) cs u (all_map _ _ cs (λ d k. (one_value-leq i v d).1 k) h) e),
  )

  pub closure-entry : (rows : List (Row A)) (c u : Cell A) (i : ℕ) (v : A) → closure eq rows c ≡ Some u
      → (slice_get u i ≡ Some (Some v)) ↔ AllByRecursion (λ row. slice_get row.tuple i ≡ Some v) (cov eq rows c)
  closure-entry rows c u i v e =
      let m = meet_all-entry (cells_of (cov eq rows c)) u i v e in
      let f = all_cells (λ d. slice_get d i ≡ Some (Some v)) (cov eq rows c) in (
        λ h. all_map _ _ (cov eq rows c) (λ r k. (slice_get-cell_of r.tuple i v).0 k) (f.0 (m.0 h)),
        λ h. m.1 (f.1 (all_map _ _ (cov eq rows c) (λ r k. (slice_get-cell_of r.tuple i v).1 k) h)),
      )

  pub closure-column : (rows : List (Row A)) (c u : Cell A) (i : ℕ) (v : A) → closure eq rows c ≡ Some u
      → (slice_get u i ≡ Some (Some v)) ↔ ((r : Row A) → Among r (cov eq rows c) → slice_get r.tuple i ≡ Some v)
  closure-column rows c u i v e =
      let f = closure-entry rows c u i v e in (
        λ h r m. all_at (λ row. slice_get row.tuple i ≡ Some v) r (cov eq rows c) (f.0 h) m,
        λ h. f.1 (all_from _ (cov eq rows c) h),
      )

  -- each covered row specializes the closure, and what generalizes each of them generalizes the closure
  pub closure_below_rows : (rows : List (Row A)) (c u : Cell A) (r : Row A) → closure eq rows c ≡ Some u → Among r rows
      → covers eq c r ≡ true → covers eq u r ≡ true
  closure_below_rows rows c u r e m h
      = all_at (λ row. leq eq c (cell_of row.tuple) ≡ true → leq eq u (cell_of row.tuple) ≡ true) r rows
      ((all_cells (λ d. leq eq c d ≡ true → leq eq u d ≡ true) rows).0 (covered_above law rows c u e)) m h

  pub closure_greatest : (rows : List (Row A)) (c d u : Cell A) → closure eq rows c ≡ Some u
      → ((r : Row A) → Among r rows → covers eq c r ≡ true → covers eq d r ≡ true) → leq eq d u ≡ true
  closure_greatest rows c d u e f =
      meet_all_above law d (cells_of (cov eq rows c)) u
      ((all_cells (λ x. leq eq d x ≡ true) (cov eq rows c)).1
      (all_from _ (cov eq rows c) (λ r m. let p = filter_among (covers eq c) r rows m in f r p.0 p.1))) e

-- a closure is there just where a row is covered
pub closure-some : {A : Type 0} (eq : A → A → Bool) (rows : List (Row A)) (c : Cell A)
    → ((u : Cell A) × (closure eq rows c ≡ Some u)) ↔ ((r : Row A) × Among r rows × (covers eq c r ≡ true))
closure-some eq rows c = (λ h. some_covered eq 0 c h.0 rows h.1, λ h. covered_some eq rows c h.0 h.1 h.2)

-- a value of a cell is one of each cell that specializes it
pub value_above : {A : Type 0} {eq : A → A → Bool} (law : IsEquality eq) (p q : Cell A) (i : ℕ) (v : A)
    → leq eq p q ≡ true → slice_get p i ≡ Some (Some v) → slice_get q i ≡ Some (Some v)
value_above law p q i v h e
    = (one_value-leq law i v q).0 (leq_trans law (one_value i v) p q ((one_value-leq law i v p).1 e) h)
