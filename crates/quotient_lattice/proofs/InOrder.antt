-- The parents of a class are the cells of the numbers that join it, in cell order.
use Rattle.std.proofs.Common.{◌≡◌, ◌≢◌, ℕ, ◌^◌, Bool, true, false, not, ◌&&◌, ◌||◌, Some, List, map, filter, length, refl, sym, ap, ◌∙◌}
use Rattle.std.proofs.Common.{subst, true≢false}
use Rattle.std.proofs.lemmas.Bool.{and_parts, and_from}
use Rattle.std.specs.Cmp.{nat_cmp_total, both_ways}
use Rattle.std.specs.FinMap as map
use Rattle.std.specs.List.{AllByRecursion, list_all, range_with_len}
use Rattle.std.specs.Ordering.{nat_cmp, eq_by_cmp}
use Rattle.cube_defs.specs.Cell.{Cell, cell_cmp, cell_eq, leq}
use Rattle.cube_defs.specs.Rows.{Row, closure, is_class}
use Rattle.cube_defs.specs.Tree.{classes}
use Rattle.cube_laws.specs.Lists.{Among}
use Rattle.cube_laws.proofs.CallerLemmas.{cell_eq-exact, cell_eq-from, is_class-is, cell_total, cell_anti, rises_same, classes-is}
use Rattle.cube_laws.proofs.CallerLemmas.{classes_rise, covered-length, rises-filter, always, among_filter, filter_among, filter_same}
use Rattle.cube_laws.proofs.CallerLemmas.{map-filter, code_equality}
use Rattle.tree_laws.specs.GeneralizingCells.{below}
use Rattle.tree_laws.proofs.CallerLemmas.{below-is, below_rises}
use Rattle.tree_search.specs.Found.{TreeRows}
use Rattle.cells_below.specs.Numbers.{cell_of_number}
use Rattle.cube_laws.specs.Parts.{value_count}
use Rattle.cells_below.proofs.CallerLemmas.{cells_below}
use Rattle.quotient_lattice.proofs.Coded.{all_pass, among_passes}
use Rattle.quotient_lattice.specs.Neighbours.{is_apart, is_parent, parents}
use Rattle.quotient_lattice.specs.Joined.{joins}
use Rattle.quotient_lattice.proofs.Joins.{IsJoin, join_joins, joins_join}

module _ (dims : ℕ) (rows : List (Row ℕ)) (wide : AllByRecursion (λ row. length row.tuple ≡ dims) rows) where
  -- the test of a parent, for cells
  abbrev passes : Cell ℕ → Cell ℕ → Bool
  passes u p = is_class (eq_by_cmp nat_cmp) rows p && is_parent nat_cmp rows p u

  parts : (p u : Cell ℕ) → is_parent nat_cmp rows p u ≡ true → (leq (eq_by_cmp nat_cmp) p u ≡ true)
      × (not (cell_eq (eq_by_cmp nat_cmp) p u) ≡ true) × (list_all (is_apart nat_cmp p u) (classes nat_cmp rows) ≡ true)
  parts p u h =
      let a = and_parts (leq (eq_by_cmp nat_cmp) p u && not (cell_eq (eq_by_cmp nat_cmp) p u)) _ h in
      let b = and_parts (leq (eq_by_cmp nat_cmp) p u) _ a.0 in
      (b.0, b.1, a.1)

  -- a parent is another cell that generalizes the child
  pub parent_above : (p u : Cell ℕ) → is_parent nat_cmp rows p u ≡ true → (leq (eq_by_cmp nat_cmp) p u ≡ true) × (p ≢ u)
  parent_above p u h = (
    (parts p u h).0,
    λ e. true≢false (sym (parts p u h).1 ∙ ap not (cell_eq-from code_equality p u e)),
  )

  pub parent_join : (p u : Cell ℕ) → is_class (eq_by_cmp nat_cmp) rows p ≡ true → is_parent nat_cmp rows p u ≡ true
      → IsJoin rows p u
  parent_join p u own h = record {
    own = (is_class-is code_equality rows p).0 own;
    below = (parts p u h).0;
    another = λ e. true≢false (sym (parts p u h).1 ∙ ap not (cell_eq-from code_equality p u e));
    alone = λ q c low high ne.
        let m : Among q (classes nat_cmp rows)
        = (classes-is nat_cmp_total map.nat_cmp-IsAntisymmetric rows dims wide q).1
        ((is_class-is code_equality rows q).1 c) in
        one q low high ne (among_passes (is_apart nat_cmp p u) (classes nat_cmp rows) (parts p u h).2 q m);
  }
    where
      same : (q : Cell ℕ) → q ≢ p → (b d : Bool) → cell_eq (eq_by_cmp nat_cmp) q p ≡ b
          → cell_eq (eq_by_cmp nat_cmp) q u ≡ d → (b || d) ≡ true → q ≡ u
      same q ne true d e f h = absurd (ne (cell_eq-exact code_equality q p e))
      same q ne false true e f h = cell_eq-exact code_equality q u f
      same q ne false false e f h = absurd (true≢false (sym h))

      one : (q : Cell ℕ) → leq (eq_by_cmp nat_cmp) p q ≡ true → leq (eq_by_cmp nat_cmp) q u ≡ true → q ≢ p
          → is_apart nat_cmp p u q ≡ true → q ≡ u
      one q low high ne k =
          same q ne (cell_eq (eq_by_cmp nat_cmp) q p) (cell_eq (eq_by_cmp nat_cmp) q u) refl refl
          (subst (λ b. (not b || (cell_eq (eq_by_cmp nat_cmp) q p || cell_eq (eq_by_cmp nat_cmp) q u)) ≡ true)
          (and_from _ _ low high) k)

  pub join_parent : (p u : Cell ℕ) → IsJoin rows p u → is_parent nat_cmp rows p u ≡ true
  join_parent p u h = and_from _ _ (and_from _ _ h.below (other (cell_eq (eq_by_cmp nat_cmp) p u) refl))
      (all_pass (is_apart nat_cmp p u) (classes nat_cmp rows) (λ q m.
      each q ((is_class-is code_equality rows q).0
      ((classes-is nat_cmp_total map.nat_cmp-IsAntisymmetric rows dims wide q).0 m))
      (leq (eq_by_cmp nat_cmp) p q) (leq (eq_by_cmp nat_cmp) q u) (cell_eq (eq_by_cmp nat_cmp) q p) refl refl refl))
    where
      other : (b : Bool) → cell_eq (eq_by_cmp nat_cmp) p u ≡ b → not b ≡ true
      other true e = absurd (h.another (cell_eq-exact code_equality p u e))
      other false e = refl

      each : (q : Cell ℕ) → closure (eq_by_cmp nat_cmp) rows q ≡ Some q → (b d e : Bool)
          → leq (eq_by_cmp nat_cmp) p q ≡ b → leq (eq_by_cmp nat_cmp) q u ≡ d → cell_eq (eq_by_cmp nat_cmp) q p ≡ e
          → (not (b && d) || (e || cell_eq (eq_by_cmp nat_cmp) q u)) ≡ true
      each q c false d e low high s = refl
      each q c true false e low high s = refl
      each q c true true true low high s = refl
      each q c true true false low high s
          = cell_eq-from code_equality q u
          (h.alone q c low high (λ t. true≢false (sym (cell_eq-from code_equality q p t) ∙ s)))

  module _ (measures : ℕ) (u : Cell ℕ) (class : closure (eq_by_cmp nat_cmp) rows u ≡ Some u)
      (long : length u ≡ dims) where
    source : TreeRows
    source = record { measures = measures; rows = rows }

    joins-is : (m : ℕ) → joins (record { measures = measures; rows = rows }) u m ≡ passes u (cell_of_number u m)
    joins-is m = both_ways _ _
        (λ h. let j = joins_join (record { measures = measures; rows = rows }) u class m h in
        and_from _ _ ((is_class-is code_equality rows (cell_of_number u m)).1 j.own)
        (join_parent (cell_of_number u m) u j))
        (λ h. let p = and_parts (is_class (eq_by_cmp nat_cmp) rows (cell_of_number u m)) _ h in
        join_joins (record { measures = measures; rows = rows }) u class m
        (parent_join (cell_of_number u m) u p.0 p.1))

    pub parents_are : map (cell_of_number u)
        (filter (joins (record { measures = measures; rows = rows }) u) (range_with_len 0 (2 ^ value_count u)))
        ≡ parents nat_cmp rows u
    parents_are =
        ap (map (cell_of_number u))
        (filter_same (joins (record { measures = measures; rows = rows }) u) (λ m. passes u (cell_of_number u m))
        (range_with_len 0 (2 ^ value_count u)) (always _ (range_with_len 0 (2 ^ value_count u)) joins-is))
        ∙ map-filter (cell_of_number u) (passes u) (range_with_len 0 (2 ^ value_count u))
        ∙ ap (filter (passes u)) (cells_below u)
        ∙ rises_same (cell_total nat_cmp_total map.nat_cmp-IsAntisymmetric)
        (cell_anti nat_cmp_total map.nat_cmp-IsAntisymmetric) (filter (passes u) (below u)) (parents nat_cmp rows u)
        (rises-filter (cell_cmp nat_cmp) (passes u) (below u) (below_rises nat_cmp_total u))
        (rises-filter (cell_cmp nat_cmp) (λ p. is_parent nat_cmp rows p u) (classes nat_cmp rows)
        (classes_rise nat_cmp_total map.nat_cmp-IsAntisymmetric rows))
        into from
      where
        into : (c : Cell ℕ) → Among c (filter (passes u) (below u)) → Among c (parents nat_cmp rows u)
        into c a =
            let f = filter_among (passes u) c (below u) a in
            let p = and_parts (is_class (eq_by_cmp nat_cmp) rows c) _ f.1 in
            among_filter (λ p. is_parent nat_cmp rows p u) c (classes nat_cmp rows)
            ((classes-is nat_cmp_total map.nat_cmp-IsAntisymmetric rows dims wide c).1 p.0) p.1

        from : (c : Cell ℕ) → Among c (parents nat_cmp rows u) → Among c (filter (passes u) (below u))
        from c a =
            let f = filter_among (λ p. is_parent nat_cmp rows p u) c (classes nat_cmp rows) a in
            let g = filter_among (is_class (eq_by_cmp nat_cmp) rows) c _ f.0 in
            let l = covered-length nat_cmp_total map.nat_cmp-IsAntisymmetric rows dims wide c g.0 in
            among_filter (passes u) c (below u)
            ((below-is nat_cmp_total map.nat_cmp-IsAntisymmetric c u).1 (l ∙ sym long, (parts c u f.1).0))
            (and_from _ _ g.1 f.1)
