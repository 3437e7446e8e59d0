-- Closures, classes and nodes depend on the tuples of the rows alone.
use Rattle.std.proofs.Common.{◌++◌, inr, ◌≡◌, Bool, true, Some, List, [], ◌∷◌, filter, length, refl, sym, ap, subst, ◌∙◌, inl}
use Rattle.std.specs.declared.cmp.Ordering.{Ordering}
use Rattle.std.specs.Ordering.{eq_by_cmp}
use Rattle.std.specs.Cmp.{IsTotalOrder}
use Rattle.std.specs.FinMap.{IsAntisymmetric}
use Rattle.std.specs.Option.{option_eq, option_map}
use Rattle.cube_defs.specs.Cell.{Cell, leq, cell_of, cell_eq, cell_prefix, depth}
use Rattle.cube_defs.specs.Tree.{covered, classes, nodes}
use Rattle.cube_defs.specs.Rows.{Row, covers, closure, meet_all, is_class, is_node}
use Rattle.cube_laws.proofs.Cells.{IsEquality, leq_antisymm}
use Rattle.cube_laws.proofs.Closures.{closure-cells, meet_all_above, meet_all_below}
use Rattle.cube_laws.specs.Lists.{Among}
use Rattle.cube_laws.specs.Tuples.{TuplesAmong, cells_of}
use Rattle.cube_laws.proofs.Lists.{among_insert, among_filter, filter_among, all_at, all_from, among_map, map_among, filter_same, always}
use Rattle.cube_laws.proofs.Distinct.{rises_same}
use Rattle.cube_laws.proofs.Orders.{equality_by}
use Rattle.cube_laws.proofs.Covered.{covered-is, covered_rises, cell_total, cell_anti}

module _ {A : Type 0} {eq : A → A → Bool} (law : IsEquality eq) where
  meet_all_same : (cs ds : List (Cell A)) → ((c : Cell A) → Among c cs → Among c ds)
      → ((c : Cell A) → Among c ds → Among c cs) → meet_all eq cs ≡ meet_all eq ds
  meet_all_same [] [] f g = refl
  meet_all_same [] (d ∷ ds) f g = absurd (g d (inl refl))
  meet_all_same (c ∷ cs) [] f g = absurd (f c (inl refl))
  meet_all_same (c ∷ cs) (d ∷ ds) f g =
      ap (λ x. Some x) (leq_antisymm law _ _
      (meet_all_above law _ (d ∷ ds) _
      (all_from _ (d ∷ ds) (λ x k. all_at (λ y. leq eq _ y ≡ true) x (c ∷ cs) (meet_all_below law (c ∷ cs) _ refl)
      (g x k))) refl)
      (meet_all_above law _ (c ∷ cs) _
      (all_from _ (c ∷ cs) (λ x k. all_at (λ y. leq eq _ y ≡ true) x (d ∷ ds) (meet_all_below law (d ∷ ds) _ refl)
      (f x k))) refl))

  -- in whichever order the rows stand, and how often
  pub closure_same : (rows more : List (Row A)) (c : Cell A)
      → ((d : Cell A) → Among d (cells_of rows) → Among d (cells_of more))
      → ((d : Cell A) → Among d (cells_of more) → Among d (cells_of rows)) → closure eq rows c ≡ closure eq more c
  closure_same rows more c f g =
      closure-cells eq rows c
      ∙ meet_all_same _ _
      (λ d k. let p = filter_among (leq eq c) d (cells_of rows) k in
      among_filter (leq eq c) d (cells_of more) (f d p.0) p.1)
      (λ d k. let p = filter_among (leq eq c) d (cells_of more) k in
      among_filter (leq eq c) d (cells_of rows) (g d p.0) p.1)
      ∙ sym (closure-cells eq more c)

module _ {A : Type 0} where
  cells_among : (rows more : List (Row A)) → TuplesAmong rows more → (d : Cell A) → Among d (cells_of rows)
      → Among d (cells_of more)
  cells_among rows more f d m =
      let q = among_map (λ (row : Row A). cell_of row.tuple) d rows m in
      let s : (s : Row A) × Among s more × (s.tuple ≡ q.0.tuple) = f q.0 q.1 in
      subst (λ x. Among x (cells_of more)) (ap cell_of s.2 ∙ sym q.2)
      (map_among (λ (row : Row A). cell_of row.tuple) s.0 more s.1)

module _ {A : Type 0} {eq : A → A → Bool} (law : IsEquality eq) (rows more : List (Row A)) (f : TuplesAmong rows more)
    (g : TuplesAmong more rows) where
  -- by the tuples of the rows
  pub closure_by_tuples : (c : Cell A) → closure eq rows c ≡ closure eq more c
  closure_by_tuples c = closure_same law rows more c (cells_among rows more f) (cells_among more rows g)

  pub class_by_tuples : (u : Cell A) → is_class eq rows u ≡ is_class eq more u
  class_by_tuples u = ap (λ o. option_eq (cell_eq eq) o (Some u)) (closure_by_tuples u)

  pub node_by_tuples : (p : Cell A) → is_node eq rows p ≡ is_node eq more p
  node_by_tuples p = ap (λ o. option_eq (cell_eq eq) (option_map (cell_prefix (depth p)) o) (Some p))
      (closure_by_tuples p)

module _ {A : Type 0} {cmp : A → A → Ordering} (total : IsTotalOrder cmp) (anti : IsAntisymmetric cmp)
    (rows more : List (Row A)) (f : TuplesAmong rows more) (g : TuplesAmong more rows) where
  covered_among : (rows more : List (Row A)) → TuplesAmong rows more → (c : Cell A) → Among c (covered cmp rows)
      → Among c (covered cmp more)
  covered_among rows more f c m =
      let q : (r : Row A) × Among r rows × (length c ≡ length r.tuple) × (covers (eq_by_cmp cmp) c r ≡ true)
      = (covered-is total anti rows c).0 m in
      let s : (s : Row A) × Among s more × (s.tuple ≡ q.0.tuple) = f q.0 q.1 in
      (covered-is total anti more c).1 (
        s.0,
        s.1,
        q.2 ∙ sym (ap length s.2),
        ap (λ t. leq (eq_by_cmp cmp) c (cell_of t)) s.2 ∙ q.3,
      )

  pub covered_by_tuples : covered cmp rows ≡ covered cmp more
  covered_by_tuples = rises_same (cell_total total anti) (cell_anti total anti) _ _ (covered_rises total anti rows)
      (covered_rises total anti more) (covered_among rows more f) (covered_among more rows g)

  pub classes_by_tuples : classes cmp rows ≡ classes cmp more
  classes_by_tuples = filter_same _ _ (covered cmp rows)
      (always _ (covered cmp rows) (λ u. class_by_tuples (equality_by total anti) rows more f g u))
      ∙ ap (filter (is_class (eq_by_cmp cmp) more)) covered_by_tuples

  pub nodes_by_tuples : nodes cmp rows ≡ nodes cmp more
  nodes_by_tuples = filter_same _ _ (covered cmp rows)
      (always _ (covered cmp rows) (λ u. node_by_tuples (equality_by total anti) rows more f g u))
      ∙ ap (filter (is_node (eq_by_cmp cmp) more)) covered_by_tuples

module _ {A : Type 0} {eq : A → A → Bool} (law : IsEquality eq) (xs : List (Row A)) (r : Row A) (ys : List (Row A))
    (s : Row A) (there : Among s (xs ++ ys)) (same : s.tuple ≡ r.tuple) where
  -- a second row of a tuple
  pub twin_closure : (c : Cell A) → closure eq (xs ++ r ∷ ys) c ≡ closure eq (xs ++ ys) c
  twin_closure c = closure_by_tuples law (xs ++ r ∷ ys) (xs ++ ys)
      (λ x m. elim ((among_insert x xs r ys).0 m) [
        | inl e ↦ (s, there, same ∙ ap (λ (row : Row A). row.tuple) (sym e))
        | inr k ↦ (x, k, refl)
      ])
      (λ x m. (x, (among_insert x xs r ys).1 (inr m), refl))
      c
