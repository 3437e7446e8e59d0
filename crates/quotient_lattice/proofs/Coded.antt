-- The neighbours of a class, and how far up it can be rolled, under other values: the same cells.
use Rattle.std.proofs.Common.{◌≡◌, ℕ, Bool, true, not, ◌&&◌, ◌||◌, List, [], ◌∷◌, map, refl, sym, ap, ap₂, ◌∙◌, inl, inr}
use Rattle.std.proofs.lemmas.Bool.{and_parts, and_from}
use Rattle.std.specs.declared.cmp.Ordering.{Ordering}
use Rattle.std.specs.Ordering.{eq_by_cmp}
use Rattle.std.specs.Cmp.{IsTotalOrder, both_ways}
use Rattle.std.specs.FinMap.{IsAntisymmetric}
use Rattle.std.specs.List.{list_all}
use Rattle.cube_defs.specs.Answers.{Ask, passes_bound}
use Rattle.cube_defs.specs.Cell.{Cell}
use Rattle.cube_defs.specs.Rows.{Row, is_class}
use Rattle.cube_defs.specs.Tree.{classes, covered}
use Rattle.cube_laws.specs.Lists.{Among}
use Rattle.cube_laws.specs.Recoding.{coded_cell, coded_row, TellsApart, AreKnown, RowsAreKnown}
use Rattle.cube_laws.proofs.CallerLemmas.{IsEquality, filter_among, equality_by, cell_eq-coded, leq-coded, classes-coded, known-covered}
use Rattle.cube_laws.proofs.CallerLemmas.{agg-coded}
use Rattle.quotient_lattice.specs.Neighbours.{is_apart, is_no_other, is_parent, is_rolled, qualifies}

module _ {X : Type 0} (p : X → Bool) where
  pub among_passes : (xs : List X) → list_all p xs ≡ true → (x : X) → Among x xs → p x ≡ true
  among_passes [] h x m = absurd m
  among_passes (y ∷ xs) h x m
      = elim m [ inl e ↦ ap p e ∙ (and_parts (p y) _ h).0 | inr k ↦ among_passes xs (and_parts (p y) _ h).1 x k ]

  pub all_pass : (xs : List X) → ((x : X) → Among x xs → p x ≡ true) → list_all p xs ≡ true
  all_pass [] h = refl
  all_pass (y ∷ xs) h = and_from _ _ (h y (inl refl)) (all_pass xs (λ x m. h x (inr m)))

module _ {A B : Type 0} {cmp : A → A → Ordering} {cmp' : B → B → Ordering} (total : IsTotalOrder cmp)
    (anti : IsAntisymmetric cmp) (total' : IsTotalOrder cmp') (anti' : IsAntisymmetric cmp')
    {known : ℕ → A → Bool} {codes : ℕ → A → B} (tells : TellsApart known codes) (rows : List (Row A))
    (h : RowsAreKnown known rows) where
  law : IsEquality (eq_by_cmp cmp)
  law = equality_by total anti

  law' : IsEquality (eq_by_cmp cmp')
  law' = equality_by total' anti'

  abbrev coded : Cell A → Cell B
  coded c = coded_cell codes 0 c

  pub class_values : (c : Cell A) → Among c (classes cmp rows) → AreKnown known 0 c
  class_values c m = known-covered total anti total' anti' tells rows h c
      (filter_among (is_class (eq_by_cmp cmp) rows) c (covered cmp rows) m).0

  -- a test of all classes
  all-coded : (p : Cell A → Bool) (p' : Cell B → Bool) → ((c : Cell A) → AreKnown known 0 c → p' (coded c) ≡ p c)
      → list_all p' (classes cmp' (map (coded_row codes) rows)) ≡ list_all p (classes cmp rows)
  all-coded p p' same = both_ways _ _
      (λ a. all_pass p (classes cmp rows) (λ c m. sym (same c (class_values c m))
      ∙ among_passes p' (classes cmp' (map (coded_row codes) rows)) a (coded c)
      ((classes-coded total anti total' anti' tells rows h (coded c)).1 (c, m, refl))))
      (λ a. all_pass p' (classes cmp' (map (coded_row codes) rows)) (λ d m.
      let c : (c : Cell A) × Among c (classes cmp rows) × (d ≡ coded c)
      = (classes-coded total anti total' anti' tells rows h d).0 m in
      ap p' c.2 ∙ same c.0 (class_values c.0 c.1) ∙ among_passes p (classes cmp rows) a c.0 c.1))

  pub is_parent-coded : (p u : Cell A) → AreKnown known 0 p → AreKnown known 0 u
      → is_parent cmp' (map (coded_row codes) rows) (coded p) (coded u) ≡ is_parent cmp rows p u
  is_parent-coded p u k l =
      ap₂ (λ a b. a && b)
      (ap₂ (λ a b. a && not b) (leq-coded law law' tells 0 p u k l) (cell_eq-coded law law' tells p u k l))
      (all-coded (is_apart cmp p u) (is_apart cmp' (coded p) (coded u)) (λ q m.
      ap₂ (λ a b. not a || b)
      (ap₂ (λ a b. a && b) (leq-coded law law' tells 0 p q k m) (leq-coded law law' tells 0 q u m l))
      (ap₂ (λ a b. a || b) (cell_eq-coded law law' tells q p m k) (cell_eq-coded law law' tells q u m l))))

  module _ (measures : ℕ) (ask : Ask) (u : Cell A) (l : AreKnown known 0 u) where
    qualifies-coded : (d : Cell A) → AreKnown known 0 d
        → qualifies cmp' measures (map (coded_row codes) rows) ask (coded u) (coded d)
        ≡ qualifies cmp measures rows ask u d
    qualifies-coded d k = ap₂ (λ a b. a && b) (leq-coded law law' tells 0 u d l k)
        (ap (passes_bound ask) (agg-coded law law' tells rows h measures d k))

    pub is_rolled-coded : (d : Cell A) → AreKnown known 0 d
        → is_rolled cmp' measures (map (coded_row codes) rows) ask (coded u) (coded d)
        ≡ is_rolled cmp measures rows ask u d
    is_rolled-coded d k =
        ap₂ (λ a b. a && b) (qualifies-coded d k)
        (all-coded (is_no_other cmp measures rows ask u d)
        (is_no_other cmp' measures (map (coded_row codes) rows) ask (coded u) (coded d)) (λ e m.
        ap₂ (λ a b. not a || b)
        (ap₂ (λ a b. a && b) (qualifies-coded e m) (leq-coded law law' tells 0 e d m k))
        (cell_eq-coded law law' tells e d m k)))
