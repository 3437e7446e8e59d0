-- No part of some rows is beyond their outermost amounts.
use Rattle.std.proofs.Common.{◌≡◌, ℕ, zero, suc, ◌*◌, ◌^◌, ◌<◌, ◌≤◌, ◌⊎◌, inl, inr, false, ℤ, pos, negsuc, neg_ℤ, ◌*ℤ◌, sym, ap, subst, ◌∙◌}
use Rattle.std.proofs.Common.{arith, true≢false}
use Rattle.std.specs.Int.{int_max, int_min}
use Rattle.std.specs.Int.Signed.{◌≤ℤ◌, ≤ℤ_refl}
use Rattle.std.specs.Ordering.{int_cmp}
use Rattle.std.proofs.Math.Nat.{mul-le-mul_left, mul-pos}
use Rattle.std.proofs.lemmas.Bool.{false_from_ne_true}
use Rattle.std.proofs.lemmas.Int.{int_max_is, int_min_is, ints}
use Rattle.cube_defs.specs.Rows.{Agg, Fraction}
use Rattle.cube_defs.specs.Answers as answers
use Rattle.cube_defs.specs.Answers.{part, value_of}
use Rattle.cube_laws.proofs.CallerLemmas.{lowest_terms-positive, lowest_terms-value, mul-mul, swap}
use Rattle.aggregates.proofs.CallerLemmas.{ten-pos}
use Rattle.aggregates.specs.declared.kind.AggKind.TheVariants as kinds
use Rattle.aggregates.specs.Views.{IsThere, kind_in}
use Rattle.iceberg_query.specs.declared.ask.Ask.{Ask}
use Rattle.iceberg_query.specs.declared.ask.Bound.{Bound}
use Rattle.iceberg_query.specs.declared.ask.Bound.TheVariants as bounds
use Rattle.iceberg_query.specs.Asked.{bound_in}
use Rattle.iceberg_query.specs.Reach.{IsOfSome, IsPartWithin, farther, is_reached, outer}
use Rattle.iceberg_query.proofs.Fractions.{IsAtMost, at_most_of, ge_rises, le_falls, lowest_at_most, times_le}
use Rattle.iceberg_query.proofs.Parts.{times_more}

neg_low : (x : ℕ) → neg_ℤ (pos x) ≤ℤ pos 0
neg_low zero = ≤ℤ_refl (pos 0)
neg_low (suc x) = omega (arith, ints)

neg_falls : (x y : ℕ) → x ≤ y → neg_ℤ (pos y) ≤ℤ neg_ℤ (pos x)
neg_falls zero y h = neg_low y
neg_falls (suc x) zero h = absurd (omega arith)
neg_falls (suc x) (suc y) h = omega (arith, ints, h)

spread_max : (z : ℤ) (k n : ℕ) → 1 ≤ k → k ≤ n → (z *ℤ pos k) ≤ℤ int_max z (z *ℤ pos n)
spread_max z zero n some few = absurd (omega arith)
spread_max (pos z) (suc k) n some few = let m = mul-le-mul_left {m = suc k} {n = n} z few in
    omega (arith, ints, m, int_max_is (pos z) (pos z *ℤ pos n))
spread_max (negsuc z) (suc k) n some few = let e = times_more (negsuc z) k in let l = neg_low (suc z * k) in
    omega (arith, ints, e, l, int_max_is (negsuc z) (negsuc z *ℤ pos n))

spread_min : (z : ℤ) (k n : ℕ) → 1 ≤ k → k ≤ n → int_min z (z *ℤ pos n) ≤ℤ (z *ℤ pos k)
spread_min z zero n some few = absurd (omega arith)
spread_min (pos z) (suc k) n some few = let e = times_more (pos z) k in
    omega (arith, ints, e, int_min_is (pos z) (pos z *ℤ pos n))
spread_min (negsuc z) (suc k) n some few = let l
    = neg_falls (suc z * suc k) (suc z * n) (mul-le-mul_left {m = suc k} {n = n} (suc z) few) in
    omega (arith, ints, l, int_min_is (negsuc z) (negsuc z *ℤ pos n))

-- the values of a measure's kinds
pub data IsValue : answers.AggKind → ℕ → Type 0 where
  of_least : {m : ℕ} → IsValue (answers.Least m) m
  of_greatest : {m : ℕ} → IsValue (answers.Greatest m) m
  of_mean : {m : ℕ} → IsValue (answers.Mean m) m

module _ (measures : ℕ) (whole some : Agg) (is : IsOfSome measures whole some) (m : ℕ) (l : m < measures)
    (scale : ℕ) where
  abbrev w : IsPartWithin (part whole m) some.count (part some m)
  w = is.each m l

  -- between the least and the greatest amount of all
  between : (kind : answers.AggKind) → IsValue kind m
      → (0 < (value_of kind scale some).den)
      × IsAtMost (value_of (answers.Least m) scale whole) (value_of kind scale some)
      × IsAtMost (value_of kind scale some) (value_of (answers.Greatest m) scale whole)
  between kind of_least = (
    lowest_terms-positive (part some m).least (10 ^ scale) (ten-pos scale),
    lowest_at_most (part whole m).least (part some m).least (10 ^ scale) (10 ^ scale) (ten-pos scale) (ten-pos scale)
        (times_le _ _ (10 ^ scale) w.least_low),
    lowest_at_most (part some m).least (part whole m).greatest (10 ^ scale) (10 ^ scale) (ten-pos scale) (ten-pos scale)
        (times_le _ _ (10 ^ scale) w.least_high),
  )
  between kind of_greatest = (
    lowest_terms-positive (part some m).greatest (10 ^ scale) (ten-pos scale),
    lowest_at_most (part whole m).least (part some m).greatest (10 ^ scale) (10 ^ scale) (ten-pos scale) (ten-pos scale)
        (times_le _ _ (10 ^ scale) w.greatest_low),
    lowest_at_most (part some m).greatest (part whole m).greatest (10 ^ scale) (10 ^ scale) (ten-pos scale)
        (ten-pos scale) (times_le _ _ (10 ^ scale) w.greatest_high),
  )
  between kind of_mean =
      let p = mul-pos is.any (ten-pos scale) in
      let spread : (z : ℤ) → (z *ℤ pos some.count) *ℤ pos (10 ^ scale) ≡ z *ℤ pos (some.count * 10 ^ scale)
      = λ z. mul-mul z some.count (10 ^ scale) in (
        lowest_terms-positive (part some m).sum (some.count * 10 ^ scale) p,
        lowest_at_most (part whole m).least (part some m).sum (10 ^ scale) (some.count * 10 ^ scale) (ten-pos scale) p
            (subst (λ z. z ≤ℤ ((part some m).sum *ℤ pos (10 ^ scale))) (spread (part whole m).least)
            (times_le _ _ (10 ^ scale) w.sum_low)),
        lowest_at_most (part some m).sum (part whole m).greatest (some.count * 10 ^ scale) (10 ^ scale) p
            (ten-pos scale)
            (subst (λ z. ((part some m).sum *ℤ pos (10 ^ scale)) ≤ℤ z) (spread (part whole m).greatest)
            (times_le _ _ (10 ^ scale) w.sum_high)),
      )

  -- neither the least, the greatest nor the mean passes, where the outermost amount doesn't
  pub value_fails : (kind : answers.AggKind) (v : IsValue kind m) (bound : Bound) (f : Fraction)
      → answers.passes_bound (record {
        kind = kind_in (outer bound m);
        scale = scale;
        bound = bound_in bound;
        value
            = f;
      }) whole ≡ false
      → answers.passes_bound (record { kind = kind; scale = scale; bound = bound_in bound; value = f }) some ≡ false
  value_fails kind v bounds.AtLeast f h = false_from_ne_true _ (λ t. let r = between kind v in
      true≢false (sym (ge_rises _ _ f r.0 r.2 t) ∙ h))
  value_fails kind v bounds.AtMost f h = false_from_ne_true _ (λ t. let r = between kind v in
      true≢false (sym (le_falls _ _ f r.0 r.1 t) ∙ h))

  abbrev sum : Fraction
  sum = value_of (answers.Sum m) scale some

  -- the sum doesn't pass, where neither one outermost amount does nor as many as there are rows
  pub sum_fails : (bound : Bound) (f end : Fraction) → end ≡ value_of (kind_in (outer bound m)) scale whole
      → is_reached bound (int_cmp (farther bound end.num (end.num *ℤ pos whole.count) *ℤ pos f.den)
      (f.num *ℤ pos end.den)) ≡ false
      → answers.passes_bound (record { kind = answers.Sum m; scale = scale; bound = bound_in bound; value = f }) some
      ≡ false
  sum_fails bounds.AtLeast f end e h
      = false_from_ne_true _ (λ t. true≢false
      (sym (ge_rises sum (record { num = int_max end.num (end.num *ℤ pos whole.count); den = end.den }) f
      (lowest_terms-positive (part some m).sum (10 ^ scale) (ten-pos scale)) below t) ∙ h))
    where
      below : IsAtMost sum (record { num = int_max end.num (end.num *ℤ pos whole.count); den = end.den })
      below =
          let g : end.num *ℤ pos (10 ^ scale) ≡ (part whole m).greatest *ℤ pos end.den
          = subst (λ (v : Fraction). v.num *ℤ pos (10 ^ scale) ≡ (part whole m).greatest *ℤ pos v.den) (sym e)
          (lowest_terms-value (part whole m).greatest (10 ^ scale) (ten-pos scale)) in
          let k : (end.num *ℤ pos some.count) *ℤ pos (10 ^ scale)
          ≡ ((part whole m).greatest *ℤ pos some.count) *ℤ pos end.den
          = swap end.num some.count (10 ^ scale) ∙ ap (λ (z : ℤ). z *ℤ pos some.count) g
          ∙ swap (part whole m).greatest end.den some.count in
          let a : IsAtMost sum (record { num = end.num *ℤ pos some.count; den = end.den })
          = at_most_of sum (record { num = end.num *ℤ pos some.count; den = end.den }) (part some m).sum
          ((part whole m).greatest *ℤ pos some.count) (10 ^ scale) (10 ^ scale) (ten-pos scale) (ten-pos scale)
          (lowest_terms-value (part some m).sum (10 ^ scale) (ten-pos scale)) k
          (times_le _ _ (10 ^ scale) w.sum_high) in
          let b = times_le (end.num *ℤ pos some.count) (int_max end.num (end.num *ℤ pos whole.count)) sum.den
          (spread_max end.num some.count whole.count is.any is.few) in
          record { cross = (let c = a.cross in omega (arith, ints, c, b)) }
  sum_fails bounds.AtMost f end e h
      = false_from_ne_true _ (λ t. true≢false
      (sym (le_falls sum (record { num = int_min end.num (end.num *ℤ pos whole.count); den = end.den }) f
      (lowest_terms-positive (part some m).sum (10 ^ scale) (ten-pos scale)) above t) ∙ h))
    where
      above : IsAtMost (record { num = int_min end.num (end.num *ℤ pos whole.count); den = end.den }) sum
      above =
          let g : end.num *ℤ pos (10 ^ scale) ≡ (part whole m).least *ℤ pos end.den
          = subst (λ (v : Fraction). v.num *ℤ pos (10 ^ scale) ≡ (part whole m).least *ℤ pos v.den) (sym e)
          (lowest_terms-value (part whole m).least (10 ^ scale) (ten-pos scale)) in
          let k : (end.num *ℤ pos some.count) *ℤ pos (10 ^ scale)
          ≡ ((part whole m).least *ℤ pos some.count) *ℤ pos end.den
          = swap end.num some.count (10 ^ scale) ∙ ap (λ (z : ℤ). z *ℤ pos some.count) g
          ∙ swap (part whole m).least end.den some.count in
          let a : IsAtMost (record { num = end.num *ℤ pos some.count; den = end.den }) sum
          = at_most_of (record { num = end.num *ℤ pos some.count; den = end.den }) sum
          ((part whole m).least *ℤ pos some.count) (part some m).sum (10 ^ scale) (10 ^ scale) (ten-pos scale)
          (ten-pos scale)
          k (lowest_terms-value (part some m).sum (10 ^ scale) (ten-pos scale)) (times_le _ _ (10 ^ scale) w.sum_low) in
          let b = times_le (int_min end.num (end.num *ℤ pos whole.count)) (end.num *ℤ pos some.count) sum.den
          (spread_min end.num some.count whole.count is.any is.few) in
          record { cross = (let c = a.cross in omega (arith, ints, c, b)) }

-- fewer rows don't pass either
pub count_fails : (measures : ℕ) (whole some : Agg) → IsOfSome measures whole some → (scale : ℕ) (f : Fraction)
    → answers.passes_bound (record { kind = answers.Count; scale = scale; bound = answers.AtLeast; value = f }) whole
    ≡ false
    → answers.passes_bound (record { kind = answers.Count; scale = scale; bound = answers.AtLeast; value = f }) some
    ≡ false
count_fails measures whole some is scale f h
    = false_from_ne_true _ (λ t. true≢false
    (sym (ge_rises _ _ f (lowest_terms-positive (pos some.count) 1 (omega arith))
    (lowest_at_most (pos some.count) (pos whole.count) 1 1 (omega arith) (omega arith)
    (times_le (pos some.count) (pos whole.count) 1 (let few = is.few in omega (arith, ints, few)))) t) ∙ h))

-- the kind that is asked for is one of a measure's values
pub value_kind : (ask : Ask) (m measures : ℕ) → (ask.kind ≡ kinds.Least m)
    ⊎ ((ask.kind ≡ kinds.Greatest m) ⊎ (ask.kind ≡ kinds.Mean m)) → IsThere measures ask.kind
    → IsValue (kind_in ask.kind) m × (m < measures)
value_kind ask m measures (inl e) there
    = (subst (λ k. IsValue (kind_in k) m) (sym e) of_least, subst (IsThere measures) e there)
value_kind ask m measures (inr (inl e)) there
    = (subst (λ k. IsValue (kind_in k) m) (sym e) of_greatest, subst (IsThere measures) e there)
value_kind ask m measures (inr (inr e)) there
    = (subst (λ k. IsValue (kind_in k) m) (sym e) of_mean, subst (IsThere measures) e there)
