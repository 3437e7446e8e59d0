-- The aggregate of a class has the measure that is asked for.
use Rattle.std.proofs.Common.{◌≡◌, ℕ, zero, suc, ◌≤◌, Bool, true, false, cond, Option, Some, None, List, [], ◌∷◌, length, take}
use Rattle.std.proofs.Common.{refl, sym, ap, ◌∙◌, subst, arith, lt-ltb, ltb-true}
use Rattle.std.specs.Prelude.{IsSome}
use Rattle.std.specs.Option.{option_map}
use Rattle.std.specs.Ordering.{nat_cmp, eq_by_cmp}
use Rattle.std.proofs.lemmas.List.FromFn.{length-map-range_with_len}
use Rattle.std.proofs.lemmas.List.{length-map}
use Rattle.aggregates.specs.declared.agg.Agg.{Agg as Total}
use Rattle.aggregates.specs.declared.kind.AggKind.{AggKind}
use Rattle.aggregates.specs.declared.kind.AggKind.TheVariants as kinds
use Rattle.aggregates.specs.Views.{IsThere, agg_in, part_in}
use Rattle.cube_defs.specs.Cell.{Cell}
use Rattle.cube_defs.specs.Rows.{Agg, agg, amounts_of, cov, is_class, part_of}
use Rattle.cube_defs.specs.Tree.{Tree}
use Rattle.lower_bounds.proofs.CallerLemmas.{class_read, class_there}
use Rattle.qc_arena.specs.RecordReaders.{record_at}
use Rattle.tree_laws.proofs.CallerLemmas.{some_same}
use Rattle.tree_search.specs.Found.{IsTreeOf, TreeRows}
use Rattle.iceberg_query.specs.Measured.{AreMeasured, has_measure, is_measured}

-- the test of a kind, and what it says
tested : (kind : AggKind) (n : ℕ) → IsThere n kind → has_measure kind n ≡ true
tested kinds.Count n l = refl
tested (kinds.Sum m) n l = lt-ltb m n l
tested (kinds.Least m) n l = lt-ltb m n l
tested (kinds.Greatest m) n l = lt-ltb m n l
tested (kinds.Mean m) n l = lt-ltb m n l

there : (kind : AggKind) (n : ℕ) → has_measure kind n ≡ true → IsThere n kind
there kinds.Count n e = tt
there (kinds.Sum m) n e = ltb-true m n e
there (kinds.Least m) n e = ltb-true m n e
there (kinds.Greatest m) n e = ltb-true m n e
there (kinds.Mean m) n e = ltb-true m n e

there_more : (kind : AggKind) (n m : ℕ) → n ≤ m → IsThere n kind → IsThere m kind
there_more kinds.Count n m le l = tt
there_more (kinds.Sum i) n m le l = omega (arith, le, l)
there_more (kinds.Least i) n m le l = omega (arith, le, l)
there_more (kinds.Greatest i) n m le l = omega (arith, le, l)
there_more (kinds.Mean i) n m le l = omega (arith, le, l)

short : {X : Type 0} (n : ℕ) (xs : List X) → length (take n xs) ≤ n
short zero xs = omega arith
short (suc n) [] = omega arith
short (suc n) (x ∷ xs) = let m = short n xs in omega (arith, m)

-- the aggregate that is read at a class has the measure
pub measure_read : (tree : Tree ℕ) (kind : AggKind) → AreMeasured tree kind → (k : ℕ) (a : Total)
    → option_map agg_in (Some a) ≡ (record_at tree k).class → IsThere a.measures kind
measure_read tree kind all k a e =
    there_more kind (length (agg_in a).parts) a.measures
    (omega (arith, length-map (take a.measures a.parts) part_in, short a.measures a.parts))
    (there kind (length (agg_in a).parts) (ap (is_measured kind) e ∙ all k))

module _ (dims : ℕ) (tree : Tree ℕ) (source : TreeRows) (h : IsTreeOf dims tree source) where
  part_count : (k : ℕ) (a : Agg) → (record_at tree k).class ≡ Some a → length a.parts ≡ source.measures
  part_count k a e =
      go (is_class (eq_by_cmp nat_cmp) source.rows p)
      (sym e ∙ class_read dims tree source h k (class_there tree k (subst (λ o. IsSome o) (sym e) refl)))
    where
      p : Cell ℕ
      p = (record_at tree k).cell

      go : (b : Bool) → Some a ≡ cond b (Some (agg (eq_by_cmp nat_cmp) source.measures source.rows p)) None
          → length a.parts ≡ source.measures
      go true q = ap (λ x. length x.parts) (some_same q)
          ∙ length-map-range_with_len (λ m. part_of (amounts_of m (cov (eq_by_cmp nat_cmp) source.rows p))) 0
          source.measures
      go false q = cc

  -- where the rows have the measure, so has the aggregate of each class
  pub are_measured : (kind : AggKind) → IsThere source.measures kind → AreMeasured tree kind
  are_measured kind l k = go (record_at tree k).class refl
    where
      go : (o : Option Agg) → (record_at tree k).class ≡ o → is_measured kind o ≡ true
      go None e = refl
      go (Some a) e = tested kind (length a.parts) (subst (λ n. IsThere n kind) (sym (part_count k a e)) l)

  -- and the rows of a tree have it, where there is a class
  pub measure_in : (kind : AggKind) → AreMeasured tree kind → (k : ℕ) (a : Total)
      → option_map agg_in (Some a) ≡ (record_at tree k).class → IsThere source.measures kind
  measure_in kind all k a e =
      subst (λ n. IsThere n kind) (part_count k (agg_in a) (sym e))
      (there kind (length (agg_in a).parts) (ap (is_measured kind) e ∙ all k))
