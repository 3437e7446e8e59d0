-- Lists with the same items, each once, have the same sums.
use Rattle.std.proofs.Common.{◌≡◌, ◌⊎◌, inl, inr, ℕ, ◌+◌, ◌≤◌, Bool, true, false, cond, Option, Some, None, List, [], ◌∷◌, map, filter}
use Rattle.std.proofs.Common.{filter_map, length, refl, sym, ap, ap₂, subst, ◌∙◌, arith}
use Rattle.std.specs.List.Sorted.{IsStrictlySortedBy}
use Rattle.std.specs.Bool.{⊤}
use Rattle.std.specs.declared.cmp.Ordering.{Ordering}
use Rattle.std.specs.Cmp.{IsTotalOrder}
use Rattle.std.specs.FinMap.{IsAntisymmetric}
use Rattle.std.specs.List.{sum_by, cons_option}
use Rattle.std.proofs.lemmas.List.Sums.{sum_by-cons}
use Rattle.cube_laws.specs.Lists.{Among}
use Rattle.cube_laws.proofs.CallerLemmas.{all_at, filter_among, among_map, self_less, covered_rises, cell_total, cell_anti}
use Rattle.cube_defs.specs.Rows.{Row}
use Rattle.cube_defs.specs.Tree.{covered}

module _ {X : Type 0} where
  -- no item twice
  abbrev pub EachOnce : List X → Type 0
  EachOnce [] = ⊤
  EachOnce (x ∷ xs) = (Among x xs → ⊥) × EachOnce xs

  -- one item taken out
  taken : (f : X → ℕ) (x : X) (ys : List X) → Among x ys → (zs : List X) × (sum_by f ys ≡ f x + sum_by f zs)
      × ((z : X) → Among z ys → (z ≡ x) ⊎ Among z zs)
  taken f x [] m = absurd m
  taken f x (y ∷ ys) m = elim m [
    | inl e ↦ (
      ys,
      sum_by-cons f y ys ∙ ap (λ w. f w + sum_by f ys) (sym e),
      λ z k. elim k [ inl w ↦ inl (w ∙ sym e) | inr w ↦ inr w ],
    )
    | inr k ↦
        let r : (zs : List X) × (sum_by f ys ≡ f x + sum_by f zs) × ((z : X) → Among z ys → (z ≡ x) ⊎ Among z zs)
        = taken f x ys k in (
          y ∷ r.0,
          sum_by-cons f y ys ∙ swapped (f y) (f x) (sum_by f r.0) (sum_by f ys) r.1
              ∙ ap (λ n. f x + n) (sym (sum_by-cons f y r.0)),
          λ z l. elim l [ inl w ↦ inr (inl w) | inr w ↦ elim (r.2 z w) [ inl v ↦ inl v | inr v ↦ inr (inr v) ] ],
        )
  ]
    where
      swapped : (a b c d : ℕ) → d ≡ b + c → a + d ≡ b + (a + c)
      swapped a b c d h = omega arith

  -- a sum over different items is no more than one over a list that has them all
  pub sum_within : (f : X → ℕ) (xs ys : List X) → EachOnce xs → ((x : X) → Among x xs → Among x ys)
      → sum_by f xs ≤ sum_by f ys
  sum_within f [] ys d g = omega arith
  sum_within f (x ∷ xs) ys d g
      = subst (λ n. n ≤ sum_by f ys) (sym (sum_by-cons f x xs))
      (go (taken f x ys (g x (inl refl))) (λ zs h. sum_within f xs zs d.1 h))
    where
      go : (zs : List X) × (sum_by f ys ≡ f x + sum_by f zs) × ((z : X) → Among z ys → (z ≡ x) ⊎ Among z zs)
          → ((zs : List X) → ((z : X) → Among z xs → Among z zs) → sum_by f xs ≤ sum_by f zs)
          → f x + sum_by f xs ≤ sum_by f ys
      go (zs, s, h) more =
          let le = more zs (λ z m. elim (h z (g z (inr m))) [
            | inl e ↦ absurd (d.0 (subst (λ w. Among w xs) e m))
            | inr k ↦ k
          ]) in
          omega (arith, s, le)

  pub sum_same : (f : X → ℕ) (xs ys : List X) → EachOnce xs → EachOnce ys → ((x : X) → Among x xs → Among x ys)
      → ((x : X) → Among x ys → Among x xs) → sum_by f xs ≡ sum_by f ys
  sum_same f xs ys a b to from = let h = sum_within f xs ys a to in let k = sum_within f ys xs b from in omega arith

  pub once_filter : (p : X → Bool) (xs : List X) → EachOnce xs → EachOnce (filter p xs)
  once_filter p [] h = tt
  once_filter p (x ∷ xs) h = go (p x) (once_filter p xs h.1)
    where
      go : (b : Bool) → EachOnce (filter p xs) → EachOnce (cond b (x ∷ filter p xs) (filter p xs))
      go true o = (λ k. h.0 (filter_among p x xs k).0, o)
      go false o = o

  pub rises_once : {cmp : X → X → Ordering} → IsTotalOrder cmp → IsAntisymmetric cmp → (xs : List X)
      → IsStrictlySortedBy cmp xs → EachOnce xs
  unfolding IsStrictlySortedBy
  rises_once total anti [] h = tt
  rises_once {cmp = cmp} total anti (x ∷ xs) h
      = (λ k. self_less total anti x (all_at (λ y. cmp x y ≡ _) x xs h.0 k), rises_once total anti xs h.1)

  pub sum_ones : (xs : List X) → sum_by (λ x. 1) xs ≡ length xs
  sum_ones [] = refl
  sum_ones (x ∷ xs) = sum_by-cons (λ y. 1) x xs ∙ omega (arith, sum_ones xs)

  pub sum_alike : (f g : X → ℕ) (xs : List X) → ((x : X) → Among x xs → f x ≡ g x) → sum_by f xs ≡ sum_by g xs
  sum_alike f g [] h = refl
  sum_alike f g (x ∷ xs) h = sum_by-cons f x xs
      ∙ ap₂ (λ a b. a + b) (h x (inl refl)) (sum_alike f g xs (λ y m. h y (inr m))) ∙ sym (sum_by-cons g x xs)

-- a sum over what there is
abbrev pub or_nothing : {Y : Type 0} → (Y → ℕ) → Option Y → ℕ
or_nothing f None = 0
or_nothing f (Some y) = f y

-- the cells that cover some row stand there once
pub covered_once : {A : Type 0} {cmp : A → A → Ordering} → IsTotalOrder cmp → IsAntisymmetric cmp
    → (rows : List (Row A)) → EachOnce (covered cmp rows)
covered_once {cmp = cmp} total anti rows
    = rises_once (cell_total total anti) (cell_anti total anti) (covered cmp rows) (covered_rises total anti rows)

module _ {X Y : Type 0} where
  pub once_map : (f : X → Y) (xs : List X) → ((x z : X) → Among x xs → Among z xs → f x ≡ f z → x ≡ z) → EachOnce xs
      → EachOnce (map f xs)
  once_map f [] apart h = tt
  once_map f (x ∷ xs) apart h = (
    λ m. let r : (z : X) × Among z xs × (f x ≡ f z) = among_map f (f x) xs m in
        h.0 (subst (λ w. Among w xs) (sym (apart x r.0 (inl refl) (inr r.1) r.2)) r.1),
    once_map f xs (λ z w m k. apart z w (inr m) (inr k)) h.1,
  )

  pub sum_by-map : (f : Y → ℕ) (h : X → Y) (xs : List X) → sum_by f (map h xs) ≡ sum_by (λ x. f (h x)) xs
  sum_by-map f h [] = refl
  sum_by-map f h (x ∷ xs) = sum_by-cons f (h x) (map h xs) ∙ ap (λ n. f (h x) + n) (sum_by-map f h xs)
      ∙ sym (sum_by-cons (λ y. f (h y)) x xs)

  pub sum_by-filter_map : (f : Y → ℕ) (h : X → Option Y) (xs : List X)
      → sum_by f (filter_map h xs) ≡ sum_by (λ x. or_nothing f (h x)) xs
  sum_by-filter_map f h [] = refl
  sum_by-filter_map f h (x ∷ xs) = go (h x) (sum_by-filter_map f h xs)
      ∙ sym (sum_by-cons (λ y. or_nothing f (h y)) x xs)
    where
      go : (o : Option Y) → sum_by f (filter_map h xs) ≡ sum_by (λ x. or_nothing f (h x)) xs
          → sum_by f (cons_option o (filter_map h xs)) ≡ or_nothing f o + sum_by (λ x. or_nothing f (h x)) xs
      go None more = more ∙ omega arith
      go (Some y) more = sum_by-cons f y (filter_map h xs) ∙ ap (λ n. f y + n) more
