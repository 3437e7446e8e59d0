-- Items that are sorted by what a function makes of them, and of which each is kept once.
use Rattle.std.proofs.Common.{◌≡◌, Bool, true, List, map, filter, refl, sym, subst, ◌∙◌}
use Rattle.std.specs.declared.cmp.Ordering.{Ordering}
use Rattle.std.specs.Ordering.{eq_by_cmp, on}
use Rattle.std.specs.Cmp.{Equal-is, IsTotalOrder}
use Rattle.std.specs.FinMap.{IsAntisymmetric}
use Rattle.std.specs.List.{Any, Contains, dedup}
use Rattle.std.specs.List.Sorted.{IsPermutation, IsSorted, IsStrictlySortedBy}
use Rattle.std.proofs.lemmas.Cmp.{eq_by_cmp_equiv, on_total}
use Rattle.std.proofs.lemmas.List.Kept.{Any-dedup, Contains-from_dedup, IsStrictlySortedBy-dedup}
use Rattle.std.proofs.lemmas.List.Sorted.{Contains-permutation, IsPermutation-sym}
use Rattle.cube_defs.specs.Tree.{distinct}
use Rattle.cube_laws.specs.Lists.{Among}
use Rattle.cube_laws.proofs.CallerLemmas.{among_distinct, rises-map, rises_distinct, rises_same, rises-filter, among_filter, among_map}
use Rattle.cube_laws.proofs.CallerLemmas.{filter_among, map_among, contains_among, among_contains}

module _ {X : Type 0} {cmp : X → X → Ordering} (total : IsTotalOrder cmp) (anti : IsAntisymmetric cmp) where
  -- a test may come before or after the sorting
  pub filter-distinct : (p : X → Bool) (xs : List X) → distinct cmp (filter p xs) ≡ filter p (distinct cmp xs)
  filter-distinct p xs =
      rises_same total anti (distinct cmp (filter p xs)) (filter p (distinct cmp xs))
      (rises_distinct total anti (filter p xs))
      (rises-filter cmp p (distinct cmp xs) (rises_distinct total anti xs))
      (λ z m.
      let a : Among z xs × (p z ≡ true) = filter_among p z xs ((among_distinct total anti z (filter p xs)).0 m) in
      among_filter p z (distinct cmp xs) ((among_distinct total anti z xs).1 a.0) a.1)
      (λ z m.
      let a : Among z (distinct cmp xs) × (p z ≡ true) = filter_among p z (distinct cmp xs) m in
      (among_distinct total anti z (filter p xs)).1 (among_filter p z xs ((among_distinct total anti z xs).0 a.0) a.1))

module _ {X Y : Type 0} (f : X → Y) {cmp : Y → Y → Ordering} (total : IsTotalOrder cmp) (anti : IsAntisymmetric cmp)
    (xs ys : List X) (same : IsPermutation xs ys) (sorted : IsSorted (on f cmp) ys) where
  abbrev kept : List X
  kept = dedup (eq_by_cmp (on f cmp)) ys

  rises : IsStrictlySortedBy cmp (map f kept)
  rises = rises-map f cmp kept (IsStrictlySortedBy-dedup (on_total f total) (λ x y. refl) ys sorted)

  no_more : (z : Y) → Among z (map f kept) → Among z (distinct cmp (map f xs))
  no_more z m =
      let a : (x : X) × Among x kept × (z ≡ f x) = among_map f z kept m in
      let there : Contains xs a.0
      = Contains-permutation ys xs a.0 (IsPermutation-sym xs ys same)
      (Contains-from_dedup (eq_by_cmp (on f cmp)) ys a.0 (among_contains a.0 kept a.1)) in
      (among_distinct total anti z (map f xs)).1
      (subst (λ y. Among y (map f xs)) (sym a.2) (map_among f a.0 xs (contains_among a.0 xs there)))

  no_less : (z : Y) → Among z (distinct cmp (map f xs)) → Among z (map f kept)
  no_less z m =
      let a : (x : X) × Among x xs × (z ≡ f x) = among_map f z xs ((among_distinct total anti z (map f xs)).0 m) in
      let b : Any (λ y. eq_by_cmp (on f cmp) a.0 y ≡ true) kept
      = Any-dedup (eq_by_cmp_equiv (on_total f total)) ys a.0
      (Contains-permutation xs ys a.0 same (among_contains a.0 xs a.1)) in
      let ties : f a.0 ≡ f b.1 = anti (f a.0) (f b.1) ((Equal-is (cmp (f a.0) (f b.1))).0 b.4) in
      subst (λ y. Among y (map f kept)) (sym (a.2 ∙ ties))
      (map_among f b.1 kept (contains_among b.1 kept (b.0, b.2, b.3)))

  -- sorted, and each kept once
  pub in-order : map f kept ≡ distinct cmp (map f xs)
  in-order = rises_same total anti (map f kept) (distinct cmp (map f xs)) rises (rises_distinct total anti (map f xs))
      no_more no_less
