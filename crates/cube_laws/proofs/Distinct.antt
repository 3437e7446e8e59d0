-- The items of a list in order, each once.
use Rattle.std.proofs.Common.{◌≡◌, ◌↔◌, ◌⊎◌, List, [], ◌∷◌, map, refl, sym, ap, ap₂, subst, ◌∙◌, inl, inr}
use Rattle.std.specs.List.Sorted.{IsStrictlySortedBy}
use Rattle.std.specs.declared.cmp.Ordering.{Ordering}
use Rattle.std.specs.declared.cmp.Ordering.TheVariants.{Less, Equal, Greater}
use Rattle.std.specs.Ordering.{ordering_reverse, on}
use Rattle.std.specs.Cmp.{IsTotalOrder}
use Rattle.std.specs.FinMap.{IsAntisymmetric}
use Rattle.std.specs.List.{AllByRecursion}
use Rattle.cube_defs.specs.Tree.{insert_sorted, distinct}
use Rattle.cube_laws.specs.Lists.{Among}
use Rattle.cube_laws.proofs.Lists.{all_at}

-- what `insert_sorted` gives by the order of x and y
abbrev pub put_by : {X : Type 0} → Ordering → X → X → List X → List X → List X
put_by Less x y ys later = x ∷ y ∷ ys
put_by Equal x y ys later = y ∷ ys
put_by Greater x y ys later = y ∷ later

pub insert_sorted-by : {X : Type 0} (cmp : X → X → Ordering) (x y : X) (ys : List X)
    → insert_sorted cmp x (y ∷ ys) ≡ put_by (cmp x y) x y ys (insert_sorted cmp x ys)
insert_sorted-by cmp x y ys
    = elim (cmp x y) as (λ r. elim r [ Less ↦ x ∷ y ∷ ys | Equal ↦ y ∷ ys | Greater ↦ y ∷ insert_sorted cmp x ys ]
    ≡ put_by r x y ys (insert_sorted cmp x ys)) [ Less ↦ refl | Equal ↦ refl | Greater ↦ refl ]

module _ {X : Type 0} (cmp : X → X → Ordering) where
  -- an item put in, where it is told apart from the others
  pub among_insert_sorted-told : (z x : X) (ys : List X) → ((y : X) → Among y ys → cmp x y ≡ Equal → x ≡ y)
      → Among z (insert_sorted cmp x ys) ↔ ((z ≡ x) ⊎ Among z ys)
  among_insert_sorted-told z x [] told = (λ h. h, λ h. h)
  among_insert_sorted-told z x (y ∷ ys) told
      = subst (λ l. Among z l ↔ ((z ≡ x) ⊎ Among z (y ∷ ys))) (sym (insert_sorted-by cmp x y ys))
      (go (among_insert_sorted-told z x ys (λ w m. told w (inr m))) (cmp x y) refl)
    where
      go : Among z (insert_sorted cmp x ys) ↔ ((z ≡ x) ⊎ Among z ys) → (r : Ordering) → cmp x y ≡ r
          → Among z (put_by r x y ys (insert_sorted cmp x ys)) ↔ ((z ≡ x) ⊎ Among z (y ∷ ys))
      go more Less e = (λ h. h, λ h. h)
      go more Equal e = (λ h. inr h, λ h. elim h [ inl k ↦ inl (k ∙ told y (inl refl) e) | inr k ↦ k ])
      go more Greater e = (
        λ h. elim h [ inl k ↦ inr (inl k) | inr k ↦ elim (more.0 k) [ inl a ↦ inl a | inr b ↦ inr (inr b) ] ],
        λ h. elim h [ inl k ↦ inr (more.1 (inl k)) | inr k ↦ elim k [ inl a ↦ inl a | inr b ↦ inr (more.1 (inr b)) ] ],
      )

  -- no item is lost where the order tells the items apart
  pub among_distinct-told : (xs : List X) → ((x y : X) → Among x xs → Among y xs → cmp x y ≡ Equal → x ≡ y) → (z : X)
      → Among z (distinct cmp xs) ↔ Among z xs
  among_distinct-told [] told z = (λ h. h, λ h. h)
  among_distinct-told (x ∷ xs) told z =
      let same : (w : X) → Among w (distinct cmp xs) ↔ Among w xs
      = among_distinct-told xs (λ a b m n. told a b (inr m) (inr n)) in
      let p = among_insert_sorted-told z x (distinct cmp xs) (λ y m. told x y (inl refl) (inr ((same y).0 m))) in (
        λ h. elim (p.0 h) [ inl a ↦ inl a | inr b ↦ inr ((same z).0 b) ],
        λ h. p.1 (elim h [ inl a ↦ inl a | inr b ↦ inr ((same z).1 b) ]),
      )

module _ {X : Type 0} {cmp : X → X → Ordering} (total : IsTotalOrder cmp) where
  all_insert_sorted : (P : X → Type 0) (x : X) (ys : List X) → P x → AllByRecursion P ys
      → AllByRecursion P (insert_sorted cmp x ys)
  all_insert_sorted P x [] h g = (h, tt)
  all_insert_sorted P x (y ∷ ys) h g
      = subst (AllByRecursion P) (sym (insert_sorted-by cmp x y ys)) (go (all_insert_sorted P x ys h g.1) (cmp x y))
    where
      go : AllByRecursion P (insert_sorted cmp x ys) → (r : Ordering)
          → AllByRecursion P (put_by r x y ys (insert_sorted cmp x ys))
      go more Less = (h, g)
      go more Equal = g
      go more Greater = (g.0, more)

  pub below_all-by_order : (x y : X) (ys : List X) → cmp x y ≡ Less → AllByRecursion (λ z. cmp y z ≡ Less) ys
      → AllByRecursion (λ z. cmp x z ≡ Less) ys
  below_all-by_order x y [] e h = tt
  below_all-by_order x y (z ∷ ys) e h = (total.trans x y z e h.0, below_all-by_order x y ys e h.1)

  pub rises_insert_sorted-by_order : (x : X) (ys : List X) → IsStrictlySortedBy cmp ys
      → IsStrictlySortedBy cmp (insert_sorted cmp x ys)
  unfolding IsStrictlySortedBy
  rises_insert_sorted-by_order x [] h = (tt, tt)
  rises_insert_sorted-by_order x (y ∷ ys) h
      = subst (IsStrictlySortedBy cmp) (sym (insert_sorted-by cmp x y ys))
      (go (rises_insert_sorted-by_order x ys h.1) (cmp x y) refl)
    where
      go : IsStrictlySortedBy cmp (insert_sorted cmp x ys) → (r : Ordering) → cmp x y ≡ r
          → IsStrictlySortedBy cmp (put_by r x y ys (insert_sorted cmp x ys))
      go more Less e = ((e, below_all-by_order x y ys e h.0), h)
      go more Equal e = h
      go more Greater e = (
        all_insert_sorted (λ z. cmp y z ≡ Less) x ys (total.antisymm y x
            ∙ ap ordering_reverse e) h.0,
        more,
      )

  pub rises_distinct-by_order : (xs : List X) → IsStrictlySortedBy cmp (distinct cmp xs)
  unfolding IsStrictlySortedBy
  rises_distinct-by_order [] = tt
  rises_distinct-by_order (x ∷ xs) = rises_insert_sorted-by_order x (distinct cmp xs) (rises_distinct-by_order xs)

module _ {X : Type 0} {cmp : X → X → Ordering} (turn : (x y : X) → cmp x y ≡ ordering_reverse (cmp y x)) where
  both_less : (x y : X) → cmp x y ≡ Less → cmp y x ≡ Less → ⊥
  both_less x y h k = let e : Less ≡ Greater = sym k ∙ turn y x ∙ ap ordering_reverse h in cc

  pub self_less-by_turn : (x : X) → cmp x x ≡ Less → ⊥
  self_less-by_turn x h = both_less x x h h

  -- lists that rise and have the same items are the same
  pub rises_same-by_turn : (xs ys : List X) → IsStrictlySortedBy cmp xs → IsStrictlySortedBy cmp ys
      → ((z : X) → Among z xs → Among z ys) → ((z : X) → Among z ys → Among z xs) → xs ≡ ys
  unfolding IsStrictlySortedBy
  rises_same-by_turn [] [] h k f g = refl
  rises_same-by_turn [] (y ∷ ys) h k f g = absurd (g y (inl refl))
  rises_same-by_turn (x ∷ xs) [] h k f g = absurd (f x (inl refl))
  rises_same-by_turn (x ∷ xs) (y ∷ ys) h k f g =
      ap₂ (λ b bs. b ∷ bs) first (rises_same-by_turn xs ys h.1 k.1
      (λ z m. elim (f z (inr m)) [
        | inl e
            ↦ absurd (self_less-by_turn x
            (subst (λ a. cmp x a ≡ Less) (e ∙ sym first) (all_at (λ a. cmp x a ≡ Less) z xs h.0 m)))
        | inr n ↦ n
      ])
      (λ z m. elim (g z (inr m)) [
        | inl e
            ↦ absurd (self_less-by_turn y
            (subst (λ a. cmp y a ≡ Less) (e ∙ first) (all_at (λ a. cmp y a ≡ Less) z ys k.0 m)))
        | inr n ↦ n
      ]))
    where
      first : x ≡ y
      first = elim (f x (inl refl)) [
        | inl e ↦ e
        | inr m ↦ elim (g y (inl refl)) [
          | inl e ↦ sym e
          | inr n ↦ absurd (both_less x y (all_at (λ a. cmp x a ≡ Less) y xs h.0 n)
              (all_at (λ a. cmp y a ≡ Less) x ys k.0 m))
        ]
      ]

module _ {X : Type 0} {cmp : X → X → Ordering} (total : IsTotalOrder cmp) (anti : IsAntisymmetric cmp) where
  pub among_distinct : (z : X) (xs : List X) → Among z (distinct cmp xs) ↔ Among z xs
  among_distinct z xs = among_distinct-told cmp xs (λ x y m n. anti x y) z

  pub rises_distinct : (xs : List X) → IsStrictlySortedBy cmp (distinct cmp xs)
  unfolding IsStrictlySortedBy
  rises_distinct = rises_distinct-by_order total

  pub self_less : (x : X) → cmp x x ≡ Less → ⊥
  self_less = self_less-by_turn total.antisymm

  pub rises_same : (xs ys : List X) → IsStrictlySortedBy cmp xs → IsStrictlySortedBy cmp ys
      → ((z : X) → Among z xs → Among z ys) → ((z : X) → Among z ys → Among z xs) → xs ≡ ys
  unfolding IsStrictlySortedBy
  rises_same = rises_same-by_turn total.antisymm

-- sorted by what a function makes of the items
module _ {X Y : Type 0} (f : X → Y) (cmp : Y → Y → Ordering) where
  insert_sorted-map : (x : X) (ys : List X) → insert_sorted cmp (f x) (map f ys) ≡ map f (insert_sorted (on f cmp) x ys)
  insert_sorted-map x [] = refl
  insert_sorted-map x (y ∷ ys) = insert_sorted-by cmp (f x) (f y) (map f ys)
      ∙ go (cmp (f x) (f y)) (insert_sorted-map x ys) ∙ ap (map f) (sym (insert_sorted-by (on f cmp) x y ys))
    where
      go : (r : Ordering) → insert_sorted cmp (f x) (map f ys) ≡ map f (insert_sorted (on f cmp) x ys)
          → put_by r (f x) (f y) (map f ys) (insert_sorted cmp (f x) (map f ys))
          ≡ map f (put_by r x y ys (insert_sorted (on f cmp) x ys))
      go Less more = refl
      go Equal more = refl
      go Greater more = ap (λ zs. f y ∷ zs) more

  pub distinct-map : (xs : List X) → distinct cmp (map f xs) ≡ map f (distinct (on f cmp) xs)
  distinct-map [] = refl
  distinct-map (x ∷ xs) = ap (insert_sorted cmp (f x)) (distinct-map xs) ∙ insert_sorted-map x (distinct (on f cmp) xs)

  pub rises-map : (xs : List X) → IsStrictlySortedBy (on f cmp) xs → IsStrictlySortedBy cmp (map f xs)
  unfolding IsStrictlySortedBy
  rises-map [] h = tt
  rises-map (x ∷ xs) h = (below x xs h.0, rises-map xs h.1)
    where
      below : (x : X) (xs : List X) → AllByRecursion (λ y. on f cmp x y ≡ Less) xs
          → AllByRecursion (λ y. cmp (f x) y ≡ Less) (map f xs)
      below x [] h = tt
      below x (y ∷ xs) h = (h.0, below x xs h.1)
