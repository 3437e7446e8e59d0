-- The iceberg answer has just the classes that pass; so it is the same under other values, up to the order.
use Rattle.std.proofs.Common.{ap₂, ◌≡◌, ◌↔◌, ℕ, Bool, true, List, map, filter, refl, sym, ap, subst, ◌∙◌}
use Rattle.std.specs.declared.cmp.Ordering.{Ordering}
use Rattle.std.specs.declared.cmp.Ordering.TheVariants.{Equal}
use Rattle.std.specs.Ordering.{eq_by_cmp, ordering_reverse}
use Rattle.std.specs.Cmp.{IsTotalOrder}
use Rattle.std.specs.FinMap.{IsAntisymmetric}
use Rattle.cube_defs.specs.Cell.{Cell, cell_cmp}
use Rattle.cube_defs.specs.Rows.{Row, Agg, Fraction, agg, is_class}
use Rattle.cube_defs.specs.Tree.{covered, classes}
use Rattle.cube_defs.specs.Answers.{Ask, AggKind, Bound, ClassHit, fraction_cmp, value_of, passes_bound, lower_bounds, passing_classes}
use Rattle.cube_defs.specs.Answers.{answer_cmp, iceberg}
use Rattle.cube_defs.specs.Answers.Bound.{AtLeast, AtMost}
use Rattle.cube_laws.specs.Lists.{Among}
use Rattle.cube_laws.specs.Recoding.{coded_cell, coded_row, TellsApart, RowsAreKnown, IsCodedClass}
use Rattle.cube_laws.proofs.Lists.{among_filter, filter_among, among_map, map_among}
use Rattle.cube_laws.proofs.Distinct.{among_distinct-told}
use Rattle.cube_laws.proofs.Orders.{equality_by, then_equal}
use Rattle.cube_laws.proofs.Covered.{cell_anti}
use Rattle.cube_laws.proofs.RecodedRows.{agg-coded}
use Rattle.cube_laws.proofs.RecodedLists.{known-covered, classes-coded, lower_bounds-coded}

module _ {A : Type 0} (cmp : A → A → Ordering) (measures : ℕ) (rows : List (Row A)) where
  -- what the answer says of a class
  abbrev pub hit_of : Cell A → ClassHit A
  hit_of u = record { upper = u; agg = agg (eq_by_cmp cmp) measures rows u; lowers = lower_bounds cmp rows u }

module _ {A : Type 0} {cmp : A → A → Ordering} (total : IsTotalOrder cmp) (anti : IsAntisymmetric cmp) (measures : ℕ)
    (rows : List (Row A)) where
  abbrev passing : Ask → List (Cell A)
  passing ask = filter (λ u. passes_bound ask (agg (eq_by_cmp cmp) measures rows u)) (classes cmp rows)

  equal_upper : (k : AggKind) (s : ℕ) (b : Bound) (v : Fraction) (x y : ClassHit A)
      → answer_cmp cmp (record { kind = k; scale = s; bound = b; value = v }) x y ≡ Equal
      → cell_cmp cmp x.upper y.upper ≡ Equal
  equal_upper k s AtLeast v x y e
      = then_equal (ordering_reverse (fraction_cmp (value_of k s x.agg) (value_of k s y.agg)))
      (cell_cmp cmp x.upper y.upper) e
  equal_upper k s AtMost v x y e
      = then_equal (fraction_cmp (value_of k s x.agg) (value_of k s y.agg)) (cell_cmp cmp x.upper y.upper) e

  pub iceberg-asked : (ask : Ask) (hit : ClassHit A) → Among hit (iceberg cmp measures rows ask)
      ↔ Among hit (passing_classes cmp measures rows ask)
  iceberg-asked ask = among_distinct-told (answer_cmp cmp ask) (passing_classes cmp measures rows ask) told
    where
      told : (x y : ClassHit A) → Among x (passing_classes cmp measures rows ask)
          → Among y (passing_classes cmp measures rows ask) → answer_cmp cmp ask x y ≡ Equal → x ≡ y
      told x y m n e =
          let p : (u : Cell A) × Among u (passing ask) × (x ≡ hit_of cmp measures rows u)
          = among_map (hit_of cmp measures rows) x (passing ask) m in
          let q : (u : Cell A) × Among u (passing ask) × (y ≡ hit_of cmp measures rows u)
          = among_map (hit_of cmp measures rows) y (passing ask) n in
          let same : x.upper ≡ y.upper
          = cell_anti total anti x.upper y.upper (equal_upper ask.kind ask.scale ask.bound ask.value x y e) in
          p.2 ∙ ap (hit_of cmp measures rows) (sym (ap (λ (h : ClassHit A). h.upper) p.2) ∙ same
          ∙ ap (λ (h : ClassHit A). h.upper) q.2) ∙ sym q.2

  -- the classes that pass
  pub asked-is : (ask : Ask) (hit : ClassHit A) → Among hit (passing_classes cmp measures rows ask)
      ↔ ((u : Cell A) × Among u (classes cmp rows) × (passes_bound ask (agg (eq_by_cmp cmp) measures rows u) ≡ true)
      × (hit ≡ hit_of cmp measures rows u))
  asked-is ask hit = (
    λ m. let p : (u : Cell A) × Among u (passing ask) × (hit ≡ hit_of cmp measures rows u)
        = among_map (hit_of cmp measures rows) hit _ m in
        let f = filter_among (λ u. passes_bound ask (agg (eq_by_cmp cmp) measures rows u)) p.0 (classes cmp rows) p.1 in
        (p.0, f.0, f.1, p.2),
    λ m. subst (λ x. Among x (passing_classes cmp measures rows ask)) (sym m.3)
        (map_among (hit_of cmp measures rows) m.0 _
        (among_filter (λ u. passes_bound ask (agg (eq_by_cmp cmp) measures rows u)) m.0 (classes cmp rows) m.1 m.2)),
  )

  pub asked-has : (ask : Ask) (hit : ClassHit A) → Among hit (passing_classes cmp measures rows ask)
      ↔ (Among hit.upper (classes cmp rows) × (passes_bound ask hit.agg ≡ true)
      × (hit.agg ≡ agg (eq_by_cmp cmp) measures rows hit.upper) × (hit.lowers ≡ lower_bounds cmp rows hit.upper))
  asked-has ask hit = (
    λ m. let p = (asked-is ask hit).0 m in
        subst (λ (h : ClassHit A). Among h.upper (classes cmp rows) × (passes_bound ask h.agg ≡ true)
        × (h.agg ≡ agg (eq_by_cmp cmp) measures rows h.upper) × (h.lowers ≡ lower_bounds cmp rows h.upper))
        (sym p.3) (p.1, p.2, refl, refl),
    λ m. (asked-is ask hit).1 (
      hit.upper,
      m.0,
      ap (passes_bound ask) (sym m.2) ∙ m.1,
      ap₂ (λ (a : Agg) (ls : List (Cell A)). let x : ClassHit A
          = record { upper = hit.upper; agg = a; lowers = ls } in x) m.2 m.3,
    ),
  )

module _ {A B : Type 0} {cmp : A → A → Ordering} {cmp' : B → B → Ordering} (total : IsTotalOrder cmp)
    (anti : IsAntisymmetric cmp) (total' : IsTotalOrder cmp') (anti' : IsAntisymmetric cmp')
    {known : ℕ → A → Bool} {codes : ℕ → A → B} (tells : TellsApart known codes) (rows : List (Row A))
    (h : RowsAreKnown known rows) (measures : ℕ) (ask : Ask) where
  coded_hits : (u : Cell A) → Among u (covered cmp rows)
      → IsCodedClass codes (hit_of cmp measures rows u)
      (hit_of cmp' measures (map (coded_row codes) rows) (coded_cell codes 0 u))
  coded_hits u m = record {
    upper = refl;
    agg = agg-coded (equality_by total anti) (equality_by total' anti') tells rows h measures u
        (known-covered total anti total' anti' tells rows h u m);
    lowers = lower_bounds-coded total anti total' anti' tells rows h u
        (known-covered total anti total' anti' tells rows h u m);
  }

  class_covered : (u : Cell A) → Among u (classes cmp rows) → Among u (covered cmp rows)
  class_covered u m = (filter_among (is_class (eq_by_cmp cmp) rows) u (covered cmp rows) m).0

  same_agg : (u : Cell A) → Among u (classes cmp rows)
      → agg (eq_by_cmp cmp') measures (map (coded_row codes) rows) (coded_cell codes 0 u)
      ≡ agg (eq_by_cmp cmp) measures rows u
  same_agg u m = agg-coded (equality_by total anti) (equality_by total' anti') tells rows h measures u
      (known-covered total anti total' anti' tells rows h u (class_covered u m))

  pub iceberg-decoded : (hit : ClassHit B) → Among hit (iceberg cmp' measures (map (coded_row codes) rows) ask)
      → (found : ClassHit A) × Among found (iceberg cmp measures rows ask) × IsCodedClass codes found hit
  iceberg-decoded hit m =
      let p : (d : Cell B) × Among d (classes cmp' (map (coded_row codes) rows))
      × (passes_bound ask (agg (eq_by_cmp cmp') measures (map (coded_row codes) rows) d) ≡ true)
      × (hit ≡ hit_of cmp' measures (map (coded_row codes) rows) d) =
      (asked-is total' anti' measures (map (coded_row codes) rows) ask hit).0
      ((iceberg-asked total' anti' measures (map (coded_row codes) rows) ask hit).0 m) in
      let c : (u : Cell A) × Among u (classes cmp rows) × (p.0 ≡ coded_cell codes 0 u)
      = (classes-coded total anti total' anti' tells rows h p.0).0 p.1 in
      let pass : passes_bound ask (agg (eq_by_cmp cmp) measures rows c.0) ≡ true
      = ap (passes_bound ask) (sym (same_agg c.0 c.1)
      ∙ ap (agg (eq_by_cmp cmp') measures (map (coded_row codes) rows)) (sym c.2)) ∙ p.2 in (
        hit_of cmp measures rows c.0,
        (iceberg-asked total anti measures rows ask _).1
            ((asked-is total anti measures rows ask _).1 (c.0, c.1, pass, refl)),
        subst (IsCodedClass codes (hit_of cmp measures rows c.0))
            (ap (hit_of cmp' measures (map (coded_row codes) rows)) (sym c.2) ∙ sym p.3)
            (coded_hits c.0 (class_covered c.0 c.1)),
      )

  pub iceberg-coded : (found : ClassHit A) → Among found (iceberg cmp measures rows ask) → (hit : ClassHit B)
      × Among hit (iceberg cmp' measures (map (coded_row codes) rows) ask) × IsCodedClass codes found hit
  iceberg-coded found m =
      let p : (u : Cell A) × Among u (classes cmp rows)
      × (passes_bound ask (agg (eq_by_cmp cmp) measures rows u) ≡ true) × (found ≡ hit_of cmp measures rows u) =
      (asked-is total anti measures rows ask found).0 ((iceberg-asked total anti measures rows ask found).0 m) in (
        hit_of cmp' measures (map (coded_row codes) rows) (coded_cell codes 0 p.0),
        (iceberg-asked total' anti' measures (map (coded_row codes) rows) ask _).1
            ((asked-is total' anti' measures (map (coded_row codes) rows) ask _).1 (
              coded_cell codes 0 p.0,
              (classes-coded total anti total' anti' tells rows h _).1 (p.0, p.1, refl),
              ap (passes_bound ask) (same_agg p.0 p.1) ∙ p.2,
              refl,
            )),
        subst (λ (f : ClassHit A). IsCodedClass codes f
            (hit_of cmp' measures (map (coded_row codes) rows) (coded_cell codes 0 p.0))) (sym p.3)
            (coded_hits p.0 (class_covered p.0 p.1)),
      )
