-- The lower bounds of a class stand among the cells that generalize it.
use Rattle.std.proofs.Common.{◌≡◌, ◌↔◌, ℕ, suc, true, Some, None, List, [], ◌∷◌, map, filter, length, refl, sym, ap, subst, ◌∙◌, inl, inr}
use Rattle.std.proofs.Common.{arith, true≢false}
use Rattle.std.specs.List.Sorted.{IsStrictlySortedBy}
use Rattle.std.proofs.lemmas.Bool.{and_parts, and_from}
use Rattle.std.specs.declared.cmp.Ordering.{Ordering}
use Rattle.std.specs.declared.cmp.Ordering.TheVariants.{Less}
use Rattle.std.specs.Ordering.{eq_by_cmp, ordering_then}
use Rattle.std.specs.Cmp.{IsTotalOrder, tied_itself}
use Rattle.std.specs.FinMap.{IsAntisymmetric}
use Rattle.std.specs.List.{AllByRecursion}
use Rattle.cube_defs.specs.Cell.{Cell, leq, cell_cmp}
use Rattle.cube_defs.specs.Rows.{Row, covers, closure, has_closure, is_lower_bound}
use Rattle.cube_defs.specs.Tree.{covered}
use Rattle.cube_defs.specs.Answers.{lower_bounds}
use Rattle.cube_laws.specs.Lists.{Among}
use Rattle.cube_laws.proofs.CallerLemmas.{among_append, among_map, map_among, among_filter, filter_among, all_at, rises_same, IsEquality}
use Rattle.cube_laws.proofs.CallerLemmas.{leq-closure, option_eq-is, covered_rises, cell_total, cell_anti, covered-is, some_covered}
use Rattle.cube_laws.proofs.CallerLemmas.{equality_by, rises-filter}
use Rattle.tree_laws.specs.GeneralizingCells.{below}
use Rattle.tree_laws.proofs.EdgesRise.{rises_append}

module _ {X Y : Type 0} (f : X → Y) where
  all_map_from : (P : X → Type 0) (Q : Y → Type 0) (xs : List X) → ((x : X) → P x → Q (f x)) → AllByRecursion P xs
      → AllByRecursion Q (map f xs)
  all_map_from P Q [] g h = tt
  all_map_from P Q (x ∷ xs) g h = (g x h.0, all_map_from P Q xs g h.1)

  rises_map : (cmp : X → X → Ordering) (dmp : Y → Y → Ordering) (xs : List X)
      → ((x y : X) → cmp x y ≡ Less → dmp (f x) (f y) ≡ Less) → IsStrictlySortedBy cmp xs
      → IsStrictlySortedBy dmp (map f xs)
  unfolding IsStrictlySortedBy
  rises_map cmp dmp [] g h = tt
  rises_map cmp dmp (x ∷ xs) g h
      = (all_map_from (λ y. cmp x y ≡ Less) (λ y. dmp (f x) y ≡ Less) xs (λ y. g x y) h.0, rises_map cmp dmp xs g h.1)

module _ {A : Type 0} {cmp : A → A → Ordering} (total : IsTotalOrder cmp) where
  -- the cells that generalize a cell stand in order
  pub below_rises : (u : Cell A) → IsStrictlySortedBy (cell_cmp cmp) (below u)
  unfolding IsStrictlySortedBy
  below_rises [] = (tt, tt)
  below_rises (None ∷ u) =
      rises_map (λ c. None ∷ c) (cell_cmp cmp) (cell_cmp cmp) (below u) (λ x y h. h) (below_rises u)
  below_rises (Some v ∷ u) =
      rises_append (cell_cmp cmp) (map (λ c. None ∷ c) (below u)) (map (λ c. Some v ∷ c) (below u))
      (rises_map (λ c. None ∷ c) (cell_cmp cmp) (cell_cmp cmp) (below u) (λ x y h. h) (below_rises u))
      (rises_map (λ c. Some v ∷ c) (cell_cmp cmp) (cell_cmp cmp) (below u) (λ x y h. same_first x y h) (below_rises u))
      (λ x y m k.
      let a : (c : Cell A) × Among c (below u) × (x ≡ None ∷ c) = among_map (λ c. None ∷ c) x (below u) m in
      let b : (c : Cell A) × Among c (below u) × (y ≡ Some v ∷ c) = among_map (λ c. Some v ∷ c) y (below u) k in
      ap (λ z. cell_cmp cmp z y) a.2 ∙ ap (cell_cmp cmp (None ∷ a.0)) b.2)
    where
      same_first : (x y : Cell A) → cell_cmp cmp x y ≡ Less → cell_cmp cmp (Some v ∷ x) (Some v ∷ y) ≡ Less
      same_first x y h = ap (λ o. ordering_then o (cell_cmp cmp x y)) (tied_itself total v) ∙ h

  -- they are just the cells of its length that generalize it
  below_is : (law : IsEquality (eq_by_cmp cmp)) (c u : Cell A) → Among c (below u) → (length c ≡ length u)
      × (leq (eq_by_cmp cmp) c u ≡ true)
  below_is law c [] h = elim h [ inl e ↦ (ap length e, ap (λ x. leq (eq_by_cmp cmp) x []) e) | inr k ↦ absurd k ]
  below_is law c (None ∷ u) h =
      let r : (d : Cell A) × Among d (below u) × (c ≡ None ∷ d) = among_map (λ d. None ∷ d) c (below u) h in
      let g = below_is law r.0 u r.1 in
      subst (λ x. (length x ≡ suc (length u)) × (leq (eq_by_cmp cmp) x (None ∷ u) ≡ true)) (sym r.2) (ap suc g.0, g.1)
  below_is law c (Some v ∷ u) h =
      elim ((among_append c (map (λ d. None ∷ d) (below u)) (map (λ d. Some v ∷ d) (below u))).0 h) [
        | inl a ↦ let r : (d : Cell A) × Among d (below u) × (c ≡ None ∷ d) = among_map (λ d. None ∷ d) c (below u) a in
            let g = below_is law r.0 u r.1 in
            subst (λ x. (length x ≡ suc (length u)) × (leq (eq_by_cmp cmp) x (Some v ∷ u) ≡ true)) (sym r.2)
            (ap suc g.0, g.1)
        | inr b ↦ let r : (d : Cell A) × Among d (below u) × (c ≡ Some v ∷ d)
            = among_map (λ d. Some v ∷ d) c (below u) b in
            let g = below_is law r.0 u r.1 in
            subst (λ x. (length x ≡ suc (length u)) × (leq (eq_by_cmp cmp) x (Some v ∷ u) ≡ true)) (sym r.2)
            (ap suc g.0, and_from _ _ (law.same v) g.1)
      ]

  is_below : (law : IsEquality (eq_by_cmp cmp)) (c u : Cell A) → length c ≡ length u → leq (eq_by_cmp cmp) c u ≡ true
      → Among c (below u)
  is_below law [] [] e h = inl refl
  is_below law [] (f ∷ u) e h = absurd (omega arith)
  is_below law (f ∷ c) [] e h = absurd (omega arith)
  is_below law (None ∷ c) (None ∷ u) e h = map_among (λ d. None ∷ d) c (below u) (is_below law c u (omega arith) h)
  is_below law (None ∷ c) (Some v ∷ u) e h
      = (among_append (None ∷ c) (map (λ d. None ∷ d) (below u)) (map (λ d. Some v ∷ d) (below u))).1
      (inl (map_among (λ d. None ∷ d) c (below u) (is_below law c u (omega arith) h)))
  is_below law (Some w ∷ c) (None ∷ u) e h = absurd (true≢false (sym h))
  is_below law (Some w ∷ c) (Some v ∷ u) e h =
      let p = and_parts (eq_by_cmp cmp w v) (leq (eq_by_cmp cmp) c u) h in
      (among_append (Some w ∷ c) (map (λ d. None ∷ d) (below u)) (map (λ d. Some v ∷ d) (below u))).1
      (inr (subst (λ x. Among (Some x ∷ c) (map (λ d. Some v ∷ d) (below u))) (sym (law.exact w v p.0))
      (map_among (λ d. Some v ∷ d) c (below u) (is_below law c u (omega arith) p.1))))

module _ {A : Type 0} {cmp : A → A → Ordering} (total : IsTotalOrder cmp) (anti : IsAntisymmetric cmp) where
  law : IsEquality (eq_by_cmp cmp)
  law = equality_by total anti

  pub below-is : (c u : Cell A) → Among c (below u) ↔ ((length c ≡ length u) × (leq (eq_by_cmp cmp) c u ≡ true))
  below-is c u = (λ m. below_is total law c u m, λ h. is_below total law c u h.0 h.1)

  -- the lower bounds of a class are the tested cells that generalize it, in their order
  pub lower_bounds-below : (dims : ℕ) (rows : List (Row A)) (u : Cell A)
      → AllByRecursion (λ row. length row.tuple ≡ dims) rows → length u ≡ dims
      → lower_bounds cmp rows u ≡ filter (is_lower_bound (eq_by_cmp cmp) rows u) (below u)
  lower_bounds-below dims rows u wide long =
      rises_same (cell_total total anti) (cell_anti total anti) _ _
      (rises-filter (cell_cmp cmp) (is_lower_bound (eq_by_cmp cmp) rows u) (covered cmp rows)
      (covered_rises total anti rows))
      (rises-filter (cell_cmp cmp) (is_lower_bound (eq_by_cmp cmp) rows u) (below u) (below_rises total u))
      into from
    where
      closed : (c : Cell A) → is_lower_bound (eq_by_cmp cmp) rows u c ≡ true → closure (eq_by_cmp cmp) rows c ≡ Some u
      closed c h = (option_eq-is law (closure (eq_by_cmp cmp) rows c) u).0
          (and_parts (has_closure (eq_by_cmp cmp) rows c u) _ h).0

      into : (c : Cell A) → Among c (filter (is_lower_bound (eq_by_cmp cmp) rows u) (covered cmp rows))
          → Among c (filter (is_lower_bound (eq_by_cmp cmp) rows u) (below u))
      into c a =
          let p = filter_among (is_lower_bound (eq_by_cmp cmp) rows u) c (covered cmp rows) a in
          let r : (r : Row A) × Among r rows × (length c ≡ length r.tuple) × (covers (eq_by_cmp cmp) c r ≡ true)
          = (covered-is total anti rows c).0 p.0 in
          among_filter (is_lower_bound (eq_by_cmp cmp) rows u) c (below u)
          (is_below total law c u (r.2 ∙ all_at (λ row. length row.tuple ≡ dims) r.0 rows wide r.1 ∙ sym long)
          (leq-closure law rows c u (closed c p.1))) p.1

      from : (c : Cell A) → Among c (filter (is_lower_bound (eq_by_cmp cmp) rows u) (below u))
          → Among c (filter (is_lower_bound (eq_by_cmp cmp) rows u) (covered cmp rows))
      from c a =
          let p = filter_among (is_lower_bound (eq_by_cmp cmp) rows u) c (below u) a in
          let b = below_is total law c u p.0 in
          let r : (r : Row A) × Among r rows × (covers (eq_by_cmp cmp) c r ≡ true)
          = some_covered (eq_by_cmp cmp) dims c u rows (closed c p.1) in
          among_filter (is_lower_bound (eq_by_cmp cmp) rows u) c (covered cmp rows)
          ((covered-is total anti rows c).1 (
            r.0,
            r.1,
            b.0 ∙ long
                ∙ sym (all_at (λ row. length row.tuple ≡ dims) r.0 rows wide r.1),
            r.2,
          )) p.1
