-- Of rising entries those that qualify stand together at one end.
use Rattle.std.proofs.Common.{◌<◌, ◌≡◌, Bool, true, false, cond, ◌&&◌, refl, sym, ap, ◌∙◌, true≢false, List, [], ◌∷◌, ◌++◌, filter, reverse}
use mathlib.Core.List.{reverse-cons}
use Rattle.std.specs.declared.cmp.Ordering.{Ordering}
use Rattle.std.specs.declared.cmp.Ordering.TheVariants.{Less, Equal, Greater}
use Rattle.std.specs.Ordering.{ordering_then, ordering_reverse, is_ge, is_gt, is_le}
use Rattle.std.specs.Cmp.{IsTotalOrder}
use Rattle.std.specs.List.{AllByRecursion, list_all}
use Rattle.std.proofs.lemmas.Cmp.{upto}
use Rattle.std.proofs.lemmas.List.Folds.{list_all-append}
use Rattle.std.proofs.lemmas.Map.Keys.{sorted_head, sorted_tail}
use Rattle.cube_defs.specs.Rows as defs
use Rattle.cube_defs.specs.Answers.{fraction_cmp}
use Rattle.cube_laws.proofs.CallerLemmas.{value_total}
use Rattle.aggregates.specs.Views.{fraction_in, ratio_in}
use Rattle.aggregates.specs.declared.fraction.Fraction.{Fraction}
use Rattle.measure_index.specs.declared.entry.IndexEntry.{IndexEntry}
use Rattle.measure_index.specs.declared.walk.Direction.{Direction}
use Rattle.measure_index.specs.declared.walk.Direction.TheVariants.{Falling, Rising}
use Rattle.measure_index.specs.Entries.{entry_cmp}
use Rattle.measure_index.specs.Rankings.{IsRising}
use Rattle.measure_index.specs.Walks.{directed, is_at_least, is_at_most, passing, qualifying, run_of}

module _ {X : Type 0} (test : X → Bool) where
  both : (a b : Bool) → (a && b) ≡ true → (a ≡ true) × (b ≡ true)
  both true b h = (refl, h)
  both false b h = absurd (true≢false (sym h))

  cut : (ys : List X) (x : X) → test x ≡ false → run_of test (ys ++ x ∷ []) ≡ run_of test ys
  cut [] x h = ap (λ (b : Bool). cond b (x ∷ []) []) h
  cut (y ∷ ys) x h = ap (λ r. cond (test y) (y ∷ r) []) (cut ys x h)

  whole : (ys : List X) → list_all test ys ≡ true → run_of test ys ≡ ys
  whole [] h = refl
  whole (y ∷ ys) h = let p = both (test y) (list_all test ys) h in ap (λ (b : Bool). cond b (y ∷ run_of test ys) []) p.0
      ∙ ap (λ r. y ∷ r) (whole ys p.1)

  kept : (ys : List X) → list_all test ys ≡ true → filter test ys ≡ ys
  kept [] h = refl
  kept (y ∷ ys) h = let p = both (test y) (list_all test ys) h in
      ap (λ (b : Bool). cond b (y ∷ filter test ys) (filter test ys)) p.0 ∙ ap (λ r. y ∷ r) (kept ys p.1)

  all_back : (xs : List X) → list_all test xs ≡ true → list_all test (reverse xs) ≡ true
  all_back [] h = refl
  all_back (x ∷ xs) h =
      let p = both (test x) (list_all test xs) h in
      ap (list_all test) (reverse-cons x xs) ∙ list_all-append test (reverse xs) (x ∷ [])
      ∙ ap (λ (b : Bool). b && (test x && true)) (all_back xs p.1) ∙ ap (λ (b : Bool). b && true) p.0

-- a ratio, or a fraction that is asked for
record Quotient : Type 0 where
  value : defs.Fraction
  positive : 0 < value.den

abbrev by_value : Quotient → Quotient → Ordering
by_value x y = fraction_cmp x.value y.value

total : IsTotalOrder by_value
total = value_total (λ (x : Quotient). x.value) (λ x. x.positive)

not_more : (a b : Ordering) → ordering_then a b ≡ Less → is_gt a ≡ false
not_more Less b h = refl
not_more Equal b h = refl
not_more Greater b h = cc

ge_out : (r : Ordering) → is_ge r ≡ true → is_gt (ordering_reverse r) ≡ false
ge_out Less h = cc
ge_out Equal h = refl
ge_out Greater h = refl

ge_in : (r : Ordering) → is_gt (ordering_reverse r) ≡ false → is_ge r ≡ true
ge_in Less h = cc
ge_in Equal h = refl
ge_in Greater h = refl

le_out : (r : Ordering) → is_le r ≡ true → is_gt r ≡ false
le_out Less h = refl
le_out Equal h = refl
le_out Greater h = cc

le_in : (r : Ordering) → is_gt r ≡ false → is_le r ≡ true
le_in Less h = refl
le_in Equal h = refl
le_in Greater h = cc

module _ (bound : Fraction) where
  abbrev asked : Quotient
  asked = record { value = fraction_in bound; positive = bound.in_range.positive }

  abbrev of : IndexEntry → Quotient
  of e = record { value = ratio_in e.value; positive = e.value.lowest.positive }

  -- what stands after an entry with at least the bound has it too
  behind : (x y : IndexEntry) → entry_cmp x y ≡ Less → is_at_least bound x ≡ true → is_at_least bound y ≡ true
  behind x y h p =
      ge_in (by_value (of y) asked)
      (ap is_gt (sym (total.antisymm asked (of y)))
      ∙ upto total asked (of x) (of y) (ap is_gt (total.antisymm asked (of x)) ∙ ge_out (by_value (of x) asked) p)
      (not_more (by_value (of x) (of y)) _ h))

  -- what stands before an entry with at most the bound has it too
  before : (x y : IndexEntry) → entry_cmp x y ≡ Less → is_at_most bound y ≡ true → is_at_most bound x ≡ true
  before x y h p = le_in (by_value (of x) asked)
      (upto total (of x) (of y) asked (not_more (by_value (of x) (of y)) _ h) (le_out (by_value (of y) asked) p))

  all_after : (x : IndexEntry) → is_at_least bound x ≡ true → (ys : List IndexEntry)
      → AllByRecursion (λ y. entry_cmp x y ≡ Less) ys → list_all (is_at_least bound) ys ≡ true
  all_after x p [] h = refl
  all_after x p (y ∷ ys) h = ap (λ (b : Bool). b && list_all (is_at_least bound) ys) (behind x y h.0 p)
      ∙ all_after x p ys h.1

  falls : (xs : List IndexEntry) → IsRising xs
      → run_of (is_at_least bound) (reverse xs) ≡ reverse (filter (is_at_least bound) xs)
  falls [] r = refl
  falls (x ∷ xs) r = go (falls xs (sorted_tail entry_cmp x xs r)) (is_at_least bound x) refl
    where
      go : run_of (is_at_least bound) (reverse xs) ≡ reverse (filter (is_at_least bound) xs) → (b : Bool)
          → is_at_least bound x ≡ b
          → run_of (is_at_least bound) (reverse (x ∷ xs)) ≡ reverse (filter (is_at_least bound) (x ∷ xs))
      go rest true e =
          let all : list_all (is_at_least bound) (x ∷ xs) ≡ true
          = ap (λ (b : Bool). b && list_all (is_at_least bound) xs) e
          ∙ all_after x e xs (sorted_head entry_cmp x xs r) in
          whole (is_at_least bound) (reverse (x ∷ xs)) (all_back (is_at_least bound) (x ∷ xs) all)
          ∙ ap reverse (sym (kept (is_at_least bound) (x ∷ xs) all))
      go rest false e =
          ap (run_of (is_at_least bound)) (reverse-cons x xs) ∙ cut (is_at_least bound) (reverse xs) x e ∙ rest
          ∙ ap reverse (sym (ap (λ (b : Bool). cond b (x ∷ filter (is_at_least bound) xs)
          (filter (is_at_least bound) xs)) e))

  none_behind : (x : IndexEntry) → is_at_most bound x ≡ false → (ys : List IndexEntry)
      → AllByRecursion (λ y. entry_cmp x y ≡ Less) ys → filter (is_at_most bound) ys ≡ []
  none_behind x p [] h = refl
  none_behind x p (y ∷ ys) h = go (is_at_most bound y) refl (none_behind x p ys h.1)
    where
      go : (b : Bool) → is_at_most bound y ≡ b → filter (is_at_most bound) ys ≡ []
          → cond b (y ∷ filter (is_at_most bound) ys) (filter (is_at_most bound) ys) ≡ []
      go true e r = absurd (true≢false (sym (before x y h.0 e) ∙ p))
      go false e r = r

  rises : (xs : List IndexEntry) → IsRising xs → run_of (is_at_most bound) xs ≡ filter (is_at_most bound) xs
  rises [] r = refl
  rises (x ∷ xs) r = go (is_at_most bound x) refl (rises xs (sorted_tail entry_cmp x xs r))
    where
      go : (b : Bool) → is_at_most bound x ≡ b → run_of (is_at_most bound) xs ≡ filter (is_at_most bound) xs
          → cond b (x ∷ run_of (is_at_most bound) xs) [] ≡ cond b (x ∷ filter (is_at_most bound) xs)
          (filter (is_at_most bound) xs)
      go true e m = ap (λ ys. x ∷ ys) m
      go false e m = sym (none_behind x e xs (sorted_head entry_cmp x xs r))

  pub all_qualifying : (direction : Direction) (xs : List IndexEntry) → IsRising xs
      → run_of (passing direction bound) (directed direction xs) ≡ qualifying direction bound xs
  all_qualifying Falling xs r = falls xs r
  all_qualifying Rising xs r = rises xs r
