-- What some of the rows come to lies within what all come to.
use Rattle.std.proofs.Common.{◌≡◌, ℕ, suc, ◌+◌, ◌≤◌, Bool, true, false, cond, List, [], ◌∷◌, length, map, filter, fold, ℤ, pos, ◌+ℤ◌, ◌*ℤ◌}
use Rattle.std.proofs.Common.{refl, sym, ap, subst, ◌∙◌, arith}
use Rattle.std.specs.Int.{int_max, int_min}
use Rattle.std.specs.Int.Signed.{◌≤ℤ◌, ≤ℤ_refl}
use Rattle.std.specs.List.{AllByRecursion}
use Rattle.std.proofs.Math.IntN.{*ℤ_comm, *ℤ-one, suc_ℤ-*ℤ}
use Rattle.std.proofs.lemmas.Int.{int_max_is, int_min_is, ints}
use Rattle.cube_defs.specs.Rows.{Part, Row, agg_of, amounts_of, part_of}
use Rattle.cube_defs.specs.Answers.{part}
use Rattle.cube_laws.proofs.CallerLemmas.{filter-le, part-agg_of}
use Rattle.iceberg_query.specs.Reach.{IsOfSome, IsPartWithin}

record IsBetween (low high x : ℤ) : Type 0 where
  at_least : low ≤ℤ x
  at_most : x ≤ℤ high

max_between : (low high x y : ℤ) → IsBetween low high x → IsBetween low high y → IsBetween low high (int_max x y)
max_between low high x y a b = record {
  at_least = omega (arith, ints, int_max_is x y, a.at_least, b.at_least);
  at_most = omega (arith, ints, int_max_is x y, a.at_most, b.at_most);
}

min_between : (low high x y : ℤ) → IsBetween low high x → IsBetween low high y → IsBetween low high (int_min x y)
min_between low high x y a b = record {
  at_least = omega (arith, ints, int_min_is x y, a.at_least, b.at_least);
  at_most = omega (arith, ints, int_min_is x y, a.at_most, b.at_most);
}

fold_max : (low high x : ℤ) (xs : List ℤ) → IsBetween low high x → AllByRecursion (IsBetween low high) xs
    → IsBetween low high (fold int_max x xs)
fold_max low high x [] a all = a
fold_max low high x (y ∷ xs) a all = fold_max low high (int_max x y) xs (max_between low high x y a all.0) all.1

fold_min : (low high x : ℤ) (xs : List ℤ) → IsBetween low high x → AllByRecursion (IsBetween low high) xs
    → IsBetween low high (fold int_min x xs)
fold_min low high x [] a all = a
fold_min low high x (y ∷ xs) a all = fold_min low high (int_min x y) xs (min_between low high x y a all.0) all.1

-- so many times a bound
pub times_more : (z : ℤ) (n : ℕ) → z *ℤ pos (suc n) ≡ (z *ℤ pos n) +ℤ z
times_more z n = *ℤ_comm z (pos (suc n)) ∙ suc_ℤ-*ℤ (pos n) z ∙ ap (λ w. w +ℤ z) (*ℤ_comm (pos n) z)

fold_sum : (low high x : ℤ) (n : ℕ) (xs : List ℤ) → IsBetween (low *ℤ pos n) (high *ℤ pos n) x
    → AllByRecursion (IsBetween low high) xs
    → IsBetween (low *ℤ pos (n + length xs)) (high *ℤ pos (n + length xs)) (fold (λ a b. a +ℤ b) x xs)
fold_sum low high x n [] a all = let e : n ≡ n + 0 = omega arith in
    subst (λ (m : ℕ). IsBetween (low *ℤ pos m) (high *ℤ pos m) x) e a
fold_sum low high x n (y ∷ xs) a all =
    let e : suc n + length xs ≡ n + suc (length xs) = omega arith in
    let l : low *ℤ pos (suc n) ≡ (low *ℤ pos n) +ℤ low = times_more low n in
    let h : high *ℤ pos (suc n) ≡ (high *ℤ pos n) +ℤ high = times_more high n in
    subst (λ (m : ℕ). IsBetween (low *ℤ pos m) (high *ℤ pos m) (fold (λ a b. a +ℤ b) (x +ℤ y) xs)) e
    (fold_sum low high (x +ℤ y) (suc n) xs (record {
      at_least = omega (arith, ints, l, a.at_least, all.0.at_least);
      at_most = omega (arith, ints, h, a.at_most, all.0.at_most);
    }) all.1)

fold_max_above : (x : ℤ) (xs : List ℤ) → x ≤ℤ fold int_max x xs
fold_max_above x [] = ≤ℤ_refl x
fold_max_above x (y ∷ xs) = let m = fold_max_above (int_max x y) xs in omega (arith, ints, int_max_is x y, m)

fold_min_below : (x : ℤ) (xs : List ℤ) → fold int_min x xs ≤ℤ x
fold_min_below x [] = ≤ℤ_refl x
fold_min_below x (y ∷ xs) = let m = fold_min_below (int_min x y) xs in omega (arith, ints, int_min_is x y, m)

-- what lies between the least and the greatest so far lies between those with one amount more
all_folded : (x y : ℤ) (xs : List ℤ) → AllByRecursion (IsBetween (fold int_min x xs) (fold int_max y xs)) xs
all_folded x y [] = tt
all_folded x y (z ∷ xs) = (
  record {
    at_least = (let m = fold_min_below (int_min x z) xs in omega (arith, ints, int_min_is x z, m));
    at_most = (let m = fold_max_above (int_max y z) xs in omega (arith, ints, int_max_is y z, m));
  },
  all_folded (int_min x z) (int_max y z) xs,
)

all_between : (xs : List ℤ) → AllByRecursion (IsBetween (part_of xs).least (part_of xs).greatest) xs
all_between [] = tt
all_between (x ∷ xs) = (record { at_least = fold_min_below x xs; at_most = fold_max_above x xs }, all_folded x x xs)

some_of : {X : Type 0} (P : ℤ → Type 0) (f : X → ℤ) (test : X → Bool) (xs : List X) → AllByRecursion P (map f xs)
    → AllByRecursion P (map f (filter test xs))
some_of P f test [] all = tt
some_of P f test (x ∷ xs) all = go (test x) (some_of P f test xs all.1)
  where
    go : (b : Bool) → AllByRecursion P (map f (filter test xs))
        → AllByRecursion P (map f (cond b (x ∷ filter test xs) (filter test xs)))
    go true more = (all.0, more)
    go false more = more

within : (whole : Part) (xs : List ℤ) → 1 ≤ length xs → AllByRecursion (IsBetween whole.least whole.greatest) xs
    → IsPartWithin whole (length xs) (part_of xs)
within whole [] h all = absurd (omega arith)
within whole (x ∷ xs) h all =
    let low = fold_min whole.least whole.greatest x xs all.0 all.1 in
    let high = fold_max whole.least whole.greatest x xs all.0 all.1 in
    let one : IsBetween (whole.least *ℤ pos 1) (whole.greatest *ℤ pos 1) x = record {
      at_least = (let e = *ℤ-one whole.least in omega (arith, ints, e, all.0.at_least));
      at_most = (let e = *ℤ-one whole.greatest in omega (arith, ints, e, all.0.at_most));
    } in
    let sum = fold_sum whole.least whole.greatest x 1 xs one all.1 in
    let e : 1 + length xs ≡ suc (length xs) = omega arith in
    record {
      least_low = low.at_least;
      least_high = low.at_most;
      greatest_low = high.at_least;
      greatest_high = high.at_most;
      sum_low = subst (λ (m : ℕ). (whole.least *ℤ pos m) ≤ℤ fold (λ a b. a +ℤ b) x xs) e sum.at_least;
      sum_high = subst (λ (m : ℕ). fold (λ a b. a +ℤ b) x xs ≤ℤ (whole.greatest *ℤ pos m)) e sum.at_most;
    }

length-amounts : (m : ℕ) (rows : List (Row ℕ)) → length (amounts_of m rows) ≡ length rows
length-amounts m [] = refl
length-amounts m (r ∷ rows) = ap suc (length-amounts m rows)

pub of_some : (measures : ℕ) (rows : List (Row ℕ)) (test : Row ℕ → Bool) → 1 ≤ length (filter test rows)
    → IsOfSome measures (agg_of measures rows) (agg_of measures (filter test rows))
of_some measures rows test h = record {
  any = h;
  few = filter-le test rows;
  each = λ m l.
      let some = filter test rows in
      let long = length-amounts m some in
      let is = within (part_of (amounts_of m rows)) (amounts_of m some) (omega (arith, long, h))
      (some_of (IsBetween (part_of (amounts_of m rows)).least (part_of (amounts_of m rows)).greatest) _ test rows
      (all_between (amounts_of m rows))) in
      subst (λ p. IsPartWithin p (length some) (part (agg_of measures some) m)) (sym (part-agg_of measures m rows l))
      (subst (λ p. IsPartWithin (part_of (amounts_of m rows)) (length some) p) (sym (part-agg_of measures m some l))
      (subst (λ n. IsPartWithin (part_of (amounts_of m rows)) n (part_of (amounts_of m some))) long is));
}
