-- The values of a column are enough to part rows by.
use Rattle.std.proofs.Common.{◌≡◌, ℕ, ◌<◌, true, false, List, [], ◌∷◌, filter_map, length, ap, slice_get}
use Rattle.std.specs.List.Sorted.{IsStrictlySortedBy}
use Rattle.std.specs.declared.cmp.Ordering.{Ordering}
use Rattle.std.specs.declared.cmp.Ordering.TheVariants.{Less}
use Rattle.std.specs.Ordering.{eq_by_cmp, is_eq}
use Rattle.std.specs.Cmp.{IsTotalOrder}
use Rattle.std.specs.FinMap.{IsAntisymmetric}
use Rattle.std.specs.List.{AllByRecursion, IsDistinct}
use Rattle.cube_defs.specs.Cell.{Cell, leq, cell_of}
use Rattle.cube_defs.specs.Rows.{Row, covers, cov}
use Rattle.cube_defs.specs.Tree.{values_at}
use Rattle.cube_laws.specs.Lists.{Among}
use Rattle.cube_laws.specs.Parts.{HasAll}
use Rattle.cube_laws.proofs.Lists.{all_at, all_from, among_filter, filter_among, among_filter_map, item_at}
use Rattle.cube_laws.proofs.Distinct.{among_distinct, rises_distinct}
use Rattle.cube_laws.proofs.Cells.{leq_trans}
use Rattle.cube_laws.proofs.Orders.{equality_by}
use Rattle.cube_laws.proofs.Partition.{has_same}

module _ {A : Type 0} {cmp : A → A → Ordering} (total : IsTotalOrder cmp) (anti : IsAntisymmetric cmp) where
  once_of_rises : (vs : List A) → IsStrictlySortedBy cmp vs → IsDistinct (eq_by_cmp cmp) vs
  unfolding IsStrictlySortedBy IsDistinct
  once_of_rises [] h = tt
  once_of_rises (v ∷ vs) h = (apart v vs h.0, once_of_rises vs h.1)
    where
      apart : (v : A) (ws : List A) → AllByRecursion (λ w. cmp v w ≡ Less) ws
          → AllByRecursion (λ w. eq_by_cmp cmp v w ≡ false) ws
      apart v [] a = tt
      apart v (w ∷ ws) a = (ap is_eq a.0, apart v ws a.1)

  -- the values in dimension i of the rows that p covers
  pub column_once : (rows : List (Row A)) (p : Cell A) (i : ℕ) → IsDistinct (eq_by_cmp cmp) (values_at cmp rows p i)
  unfolding IsDistinct
  column_once rows p i = once_of_rises (values_at cmp rows p i)
      (rises_distinct total anti (filter_map (λ (row : Row A). slice_get row.tuple i) (cov (eq_by_cmp cmp) rows p)))

  module _ (rows : List (Row A)) (p u : Cell A) (i : ℕ) (low : leq (eq_by_cmp cmp) p u ≡ true) where
    -- they are enough for the parts of u among those rows and among fewer
    pub column_all : (some : List (Row A)) → ((s : Row A) → Among s some → Among s rows)
        → AllByRecursion (λ row. i < length row.tuple) rows → HasAll (eq_by_cmp cmp) some u i (values_at cmp rows p i)
    column_all some within long = all_from _ (cov (eq_by_cmp cmp) some u) (λ s m.
        let f = filter_among (covers (eq_by_cmp cmp) u) s some m in
        let there : Among s (cov (eq_by_cmp cmp) rows p)
        = among_filter (covers (eq_by_cmp cmp) p) s rows (within s f.0)
        (leq_trans (equality_by total anti) p u (cell_of s.tuple) low f.1) in
        let v = item_at s.tuple i (all_at (λ row. i < length row.tuple) s rows long (within s f.0)) in (
          v.0,
          (among_distinct total anti v.0
              (filter_map (λ (row : Row A). slice_get row.tuple i) (cov (eq_by_cmp cmp) rows p))).1
              ((among_filter_map (λ (row : Row A). slice_get row.tuple i) v.0 (cov (eq_by_cmp cmp) rows p)).1 (
                s,
                there,
                v.1,
              )),
          has_same (equality_by total anti) i v.0 s v.1,
        ))
