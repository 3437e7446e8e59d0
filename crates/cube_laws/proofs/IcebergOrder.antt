-- The classes of an iceberg answer stand in the order of their values, and in no other way.
use Rattle.std.proofs.Common.{◌≡◌, ◌↔◌, ℕ, ◌<◌, ◌*◌, ◌^◌, true, List, [], ◌∷◌, map, pos, ◌*ℤ◌, refl, sym, ap, ap₂, subst, ◌∙◌, arith, inl}
use Rattle.std.proofs.Common.{inr}
use Rattle.std.specs.List.Sorted.{IsStrictlySortedBy}
use Rattle.std.specs.declared.cmp.Ordering.{Ordering}
use Rattle.std.specs.declared.cmp.Ordering.TheVariants.{Less, Equal, Greater}
use Rattle.std.specs.Ordering.{eq_by_cmp, ordering_then, ordering_reverse, on}
use Rattle.std.specs.Cmp.{IsTotalOrder, then_total, on_total, int_cmp_total}
use Rattle.std.specs.FinMap.{IsAntisymmetric}
use Rattle.std.proofs.Math.Nat.{mul-pos}
use Rattle.cube_defs.specs.Cell.{Cell, cell_cmp}
use Rattle.cube_defs.specs.Rows.{Row, Agg, Fraction, covers, cov, is_class, agg}
use Rattle.cube_defs.specs.Tree.{covered, classes, distinct}
use Rattle.cube_defs.specs.Answers.{Ask, AggKind, Bound, ClassHit, part, fraction_cmp, value_of, passing_classes, answer_cmp, iceberg}
use Rattle.cube_defs.specs.Answers.Bound.{AtLeast, AtMost}
use Rattle.cube_defs.specs.Answers.AggKind.{Count, Sum, Least, Greatest, Mean}
use Rattle.cube_laws.specs.Lists.{Among}
use Rattle.cube_laws.proofs.Lists.{among_filter, filter_among, among-length}
use Rattle.cube_laws.proofs.Distinct.{rises_distinct-by_order, rises_same-by_turn, distinct-map, rises-map}
use Rattle.cube_laws.proofs.Orders.{equality_by}
use Rattle.cube_laws.proofs.Closures.{is_class-is}
use Rattle.cube_laws.proofs.Covered.{cell_total, some_covered}
use Rattle.cube_laws.proofs.Divisors.{lowest_terms-positive}
use Rattle.cube_laws.proofs.FractionOrder.{value_total, falling_total}
use Rattle.cube_laws.proofs.Icebergs.{iceberg-asked, asked-is}
use Rattle.cube_laws.proofs.Numbers.{ten-pos}

value-positive : (kind : AggKind) (scale : ℕ) (a : Agg) → 0 < a.count → 0 < (value_of kind scale a).den
value-positive Count scale a h = lowest_terms-positive (pos a.count) 1 (omega arith)
value-positive (Sum m) scale a h = lowest_terms-positive (part a m).sum (10 ^ scale) (ten-pos scale)
value-positive (Least m) scale a h = lowest_terms-positive (part a m).least (10 ^ scale) (ten-pos scale)
value-positive (Greatest m) scale a h = lowest_terms-positive (part a m).greatest (10 ^ scale) (ten-pos scale)
value-positive (Mean m) scale a h
    = lowest_terms-positive (part a m).sum (a.count * 10 ^ scale) (mul-pos h (ten-pos scale))

-- a class whose value has a positive denominator
record Valued (A : Type 0) (kind : AggKind) (scale : ℕ) : Type 0 where
  hit : ClassHit A
  positive : 0 < (value_of kind scale hit.agg).den

valued : {A : Type 0} (kind : AggKind) (scale : ℕ) (xs : List (ClassHit A))
    → ((h : ClassHit A) → Among h xs → 0 < (value_of kind scale h.agg).den) → (vs : List (Valued A kind scale))
    × (map (λ (v : Valued A kind scale). v.hit) vs ≡ xs)
valued kind scale [] p = ([], refl)
valued kind scale (x ∷ xs) p = let more = valued kind scale xs (λ h m. p h (inr m)) in
    (record { hit = x; positive = p x (inl refl) } ∷ more.0, ap (λ ys. x ∷ ys) more.1)

pub then_turn : (a b : Ordering)
    → ordering_then (ordering_reverse a) (ordering_reverse b) ≡ ordering_reverse (ordering_then a b)
then_turn Less b = refl
then_turn Equal b = refl
then_turn Greater b = refl

module _ {A : Type 0} {cmp : A → A → Ordering} (total : IsTotalOrder cmp) (anti : IsAntisymmetric cmp) where
  order : (k : AggKind) (s : ℕ) (b : Bound) (v : Fraction)
      → IsTotalOrder {K = Valued A k s}
      (on (λ (x : Valued A k s). x.hit) (answer_cmp cmp (record { kind = k; scale = s; bound = b; value = v })))
  order k s AtLeast v = then_total
      (falling_total (value_total (λ (x : Valued A k s). value_of k s x.hit.agg) (λ x. x.positive)))
      (on_total (λ (x : Valued A k s). x.hit.upper) (cell_total total anti))
  order k s AtMost v = then_total (value_total (λ (x : Valued A k s). value_of k s x.hit.agg) (λ x. x.positive))
      (on_total (λ (x : Valued A k s). x.hit.upper) (cell_total total anti))

  fraction_turn : (x y : Fraction) → fraction_cmp x y ≡ ordering_reverse (fraction_cmp y x)
  fraction_turn x y = int_cmp_total.antisymm (x.num *ℤ pos y.den) (y.num *ℤ pos x.den)

  turned_by : (k : AggKind) (s : ℕ) (b : Bound) (v : Fraction) (x y : ClassHit A)
      → answer_cmp cmp (record { kind = k; scale = s; bound = b; value = v }) x y ≡ ordering_reverse
      (answer_cmp cmp (record { kind = k; scale = s; bound = b; value = v }) y x)
  turned_by k s AtLeast v x y =
      ap₂ ordering_then (ap ordering_reverse (fraction_turn (value_of k s x.agg) (value_of k s y.agg)))
      ((cell_total total anti).antisymm x.upper y.upper)
      ∙ then_turn (ordering_reverse (fraction_cmp (value_of k s y.agg) (value_of k s x.agg)))
      (cell_cmp cmp y.upper x.upper)
  turned_by k s AtMost v x y =
      ap₂ ordering_then (fraction_turn (value_of k s x.agg) (value_of k s y.agg))
      ((cell_total total anti).antisymm x.upper y.upper)
      ∙ then_turn (fraction_cmp (value_of k s y.agg) (value_of k s x.agg)) (cell_cmp cmp y.upper x.upper)

  module _ (measures : ℕ) (rows : List (Row A)) (ask : Ask) where
    class-count : (u : Cell A) → Among u (classes cmp rows) → 0 < (agg (eq_by_cmp cmp) measures rows u).count
    class-count u m =
        let f = filter_among (is_class (eq_by_cmp cmp) rows) u (covered cmp rows) m in
        let c : (r : Row A) × Among r rows × (covers (eq_by_cmp cmp) u r ≡ true)
        = some_covered (eq_by_cmp cmp) 0 u u rows ((is_class-is (equality_by total anti) rows u).0 f.1) in
        among-length c.0 (cov (eq_by_cmp cmp) rows u) (among_filter (covers (eq_by_cmp cmp) u) c.0 rows c.1 c.2)

    asked-positive : (h : ClassHit A) → Among h (passing_classes cmp measures rows ask)
        → 0 < (value_of ask.kind ask.scale h.agg).den
    asked-positive h m =
        let p = (asked-is total anti measures rows ask h).0 m in
        value-positive ask.kind ask.scale h.agg
        (subst (λ (x : ClassHit A). 0 < x.agg.count) (sym p.3) (class-count p.0 p.1))

    -- by value, and in cell order where values are equal
    pub iceberg-rises : IsStrictlySortedBy (answer_cmp cmp ask) (iceberg cmp measures rows ask)
    unfolding IsStrictlySortedBy
    iceberg-rises =
        let vs = valued ask.kind ask.scale (passing_classes cmp measures rows ask) asked-positive in
        subst (λ xs. IsStrictlySortedBy (answer_cmp cmp ask) (distinct (answer_cmp cmp ask) xs)) vs.1
        (subst (IsStrictlySortedBy (answer_cmp cmp ask))
        (sym (distinct-map (λ (v : Valued A ask.kind ask.scale). v.hit) (answer_cmp cmp ask) vs.0))
        (rises-map (λ (v : Valued A ask.kind ask.scale). v.hit) (answer_cmp cmp ask)
        (distinct (on (λ (v : Valued A ask.kind ask.scale). v.hit) (answer_cmp cmp ask)) vs.0)
        (rises_distinct-by_order (order ask.kind ask.scale ask.bound ask.value) vs.0)))

    -- no other list of these classes stands in this order
    pub iceberg-only : (hits : List (ClassHit A)) → IsStrictlySortedBy (answer_cmp cmp ask) hits
        → ((h : ClassHit A) → Among h hits ↔ Among h (passing_classes cmp measures rows ask))
        → hits ≡ iceberg cmp measures rows ask
    unfolding IsStrictlySortedBy
    iceberg-only hits rise same =
        rises_same-by_turn (turned_by ask.kind ask.scale ask.bound ask.value) hits
        (iceberg cmp measures rows ask) rise iceberg-rises
        (λ h m. (iceberg-asked total anti measures rows ask h).1 ((same h).0 m))
        (λ h m. (same h).1 ((iceberg-asked total anti measures rows ask h).0 m))
