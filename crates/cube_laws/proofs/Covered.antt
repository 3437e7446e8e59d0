-- `covered` has just the cells that cover some row, rising in cell order.
use Rattle.std.proofs.Common.{Bool, List, None, Option, Some, [], ap, arith, cond, false, flat_map, inl, inr, length, map, refl, subst, suc}
use Rattle.std.proofs.Common.{sym, true, ℕ, ◌↔◌, ◌∙◌, ◌∷◌, ◌≡◌}
use Rattle.std.specs.List.Sorted.{IsStrictlySortedBy}
use Rattle.std.specs.declared.cmp.Ordering.{Ordering}
use Rattle.std.specs.Ordering.{eq_by_cmp}
use Rattle.std.specs.Cmp.{IsTotalOrder}
use Rattle.std.specs.FinMap.{IsAntisymmetric, slice_cmp-IsAntisymmetric}
use Rattle.std.specs.Option.{option_cmp}
use Rattle.std.specs.Cmp.Lexicographic.{lists_total, options_total}
use Rattle.cube_laws.proofs.Orders.{equality_by}
use Rattle.std.specs.List.{AllByRecursion}
use Rattle.std.proofs.lemmas.Bool.{and_parts, and_from}
use Rattle.cube_defs.specs.Cell.{Cell, leq, cell_of, cell_cmp}
use Rattle.cube_defs.specs.Rows.{Row, covers, cov, closure, meet_all, meet_after}
use Rattle.cube_defs.specs.Tree.{generalizations, covered}
use Rattle.cube_laws.proofs.Cells.{IsEquality, length-cell_of, length-meet}
use Rattle.cube_laws.specs.Tuples.{cells_of}
use Rattle.cube_laws.specs.Lists.{Among}
use Rattle.cube_laws.proofs.Lists.{among_filter, among_append, among_map, map_among, among_flat_map}
use Rattle.cube_laws.proofs.Distinct.{among_distinct, rises_distinct}

module _ {A : Type 0} {eq : A → A → Bool} (law : IsEquality eq) where
  -- a cell is among a tuple's just where it is as long and covers it
  generalization_covers : (c : Cell A) (t : List A) → Among c (generalizations t) → (length c ≡ length t)
      × (leq eq c (cell_of t) ≡ true)
  generalization_covers c [] h = elim h [ inl e ↦ (ap length e, ap (λ x. leq eq x []) e) | inr k ↦ absurd k ]
  generalization_covers c (v ∷ t) h =
      elim ((among_append c (map (λ d. None ∷ d) (generalizations t)) (map (λ d. Some v ∷ d) (generalizations t))).0
      h) [
        | inl a ↦ let r : (d : Cell A) × Among d (generalizations t) × (c ≡ None ∷ d)
            = among_map (λ d. None ∷ d) c (generalizations t) a in
            let g = generalization_covers r.0 t r.1 in
            subst (λ x. (length x ≡ suc (length t)) × (leq eq x (cell_of (v ∷ t)) ≡ true)) (sym r.2) (ap suc g.0, g.1)
        | inr b ↦ let r : (d : Cell A) × Among d (generalizations t) × (c ≡ Some v ∷ d)
            = among_map (λ d. Some v ∷ d) c (generalizations t) b in
            let g = generalization_covers r.0 t r.1 in
            subst (λ x. (length x ≡ suc (length t)) × (leq eq x (cell_of (v ∷ t)) ≡ true)) (sym r.2) (
              ap suc g.0,
              and_from _ _ (law.same v) g.1,
            )
      ]

  covers_generalization : (c : Cell A) (t : List A) → length c ≡ length t → leq eq c (cell_of t) ≡ true
      → Among c (generalizations t)
  covers_generalization [] [] e h = inl refl
  covers_generalization [] (v ∷ t) e h = absurd (omega arith)
  covers_generalization (f ∷ c) [] e h = absurd (omega arith)
  covers_generalization (None ∷ c) (v ∷ t) e h
      = (among_append (None ∷ c) (map (λ c. None ∷ c) (generalizations t))
      (map (λ c. Some v ∷ c) (generalizations t))).1 (inl (map_among _ c _ (covers_generalization c t (omega arith) h)))
  covers_generalization (Some w ∷ c) (v ∷ t) e h =
      let p = and_parts (eq w v) (leq eq c (cell_of t)) h in
      (among_append (Some w ∷ c) (map (λ c. None ∷ c) (generalizations t))
      (map (λ c. Some v ∷ c) (generalizations t))).1
      (inr (subst (λ x. Among (Some x ∷ c) (map (λ c. Some v ∷ c) (generalizations t))) (sym (law.exact w v p.0))
      (map_among (λ c. Some v ∷ c) c _ (covers_generalization c t (omega arith) p.1))))

module _ {A : Type 0} {cmp : A → A → Ordering} (total : IsTotalOrder cmp) (anti : IsAntisymmetric cmp) where
  pub cell_total : IsTotalOrder (cell_cmp cmp)
  cell_total = lists_total (options_total total)

  pub cell_anti : IsAntisymmetric (cell_cmp cmp)
  cell_anti = slice_cmp-IsAntisymmetric entry_anti
    where
      entry_anti : IsAntisymmetric (option_cmp cmp)
      entry_anti None None e = refl
      entry_anti None (Some y) e = cc
      entry_anti (Some x) None e = cc
      entry_anti (Some x) (Some y) e = ap (λ v. Some v) (anti x y e)

  pub covered_rises : (rows : List (Row A)) → IsStrictlySortedBy (cell_cmp cmp) (covered cmp rows)
  unfolding IsStrictlySortedBy
  covered_rises rows = rises_distinct cell_total cell_anti (flat_map (λ row. generalizations row.tuple) rows)

  -- the cells of all dimensions that cover some row
  pub covered-is : (rows : List (Row A)) (c : Cell A) → Among c (covered cmp rows)
      ↔ ((r : Row A) × Among r rows × (length c ≡ length r.tuple) × (covers (eq_by_cmp cmp) c r ≡ true))
  covered-is rows c =
      let law = equality_by total anti in
      let p = among_distinct cell_total cell_anti c (flat_map (λ row. generalizations row.tuple) rows) in
      let q = among_flat_map (λ (row : Row A). generalizations row.tuple) c rows in (
        λ h. let f : (r : Row A) × Among r rows × Among c (generalizations r.tuple) = q.0 (p.0 h) in
            let g = generalization_covers law c f.0.tuple f.2 in (f.0, f.1, g.0, g.1),
        λ h. p.1 (q.1 (h.0, h.1, covers_generalization law c h.0.tuple h.2 h.3)),
      )

module _ {A : Type 0} (eq : A → A → Bool) (n : ℕ) where
  -- the closure among rows of n dimensions has n
  pub closure_length : (c u : Cell A) (rows : List (Row A)) → AllByRecursion (λ r. length r.tuple ≡ n) rows
      → closure eq rows c ≡ Some u → length u ≡ n
  closure_length c u [] a e = cc
  closure_length c u (r ∷ rows) a e = go (λ w. closure_length c w rows a.1) (covers eq c r) e
    where
      joined : ((w : Cell A) → closure eq rows c ≡ Some w → length w ≡ n) → (o : Option (Cell A))
          → closure eq rows c ≡ o → length (meet_after eq (cell_of r.tuple) o) ≡ n
      joined more None k = length-cell_of r.tuple ∙ a.0
      joined more (Some w) k = length-meet eq (cell_of r.tuple) w (length-cell_of r.tuple ∙ a.0 ∙ sym (more w k))
          ∙ length-cell_of r.tuple ∙ a.0

      go : ((w : Cell A) → closure eq rows c ≡ Some w → length w ≡ n) → (b : Bool)
          → meet_all eq (cells_of (cond b (r ∷ cov eq rows c) (cov eq rows c))) ≡ Some u → length u ≡ n
      go more true k = let is : meet_after eq (cell_of r.tuple) (closure eq rows c) ≡ u = cc in
          ap length (sym is) ∙ joined more (closure eq rows c) refl
      go more false k = more u k

  -- where there is a closure, a row is covered
  pub some_covered : (c u : Cell A) (rows : List (Row A)) → closure eq rows c ≡ Some u → (r : Row A) × Among r rows
      × (covers eq c r ≡ true)
  some_covered c u [] e = cc
  some_covered c u (r ∷ rows) e = go (some_covered c u rows) (covers eq c r) refl e
    where
      go : (closure eq rows c ≡ Some u → (r : Row A) × Among r rows × (covers eq c r ≡ true)) → (b : Bool)
          → covers eq c r ≡ b → meet_all eq (cells_of (cond b (r ∷ cov eq rows c) (cov eq rows c))) ≡ Some u
          → (s : Row A) × Among s (r ∷ rows) × (covers eq c s ≡ true)
      go more true is k = (r, inl refl, is)
      go more false is k = let m : (r : Row A) × Among r rows × (covers eq c r ≡ true) = more k in (m.0, inr m.1, m.2)

-- a cell that covers a row has a closure
pub covered_some : {A : Type 0} (eq : A → A → Bool) (rows : List (Row A)) (c : Cell A) (s : Row A) → Among s rows
    → covers eq c s ≡ true → (z : Cell A) × (closure eq rows c ≡ Some z)
covered_some {A = A} eq rows c s h k = go (cov eq rows c) refl (among_filter (covers eq c) s rows h k)
  where
    go : (l : List (Row A)) → cov eq rows c ≡ l → Among s l → (z : Cell A) × (closure eq rows c ≡ Some z)
    go [] e m = absurd m
    go (x ∷ l) e m = (_, ap (λ l. meet_all eq (cells_of l)) e)
