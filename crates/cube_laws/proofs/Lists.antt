-- Lists: filters, facts of all items, and items among others.
use Rattle.std.proofs.Common.{ℕ, zero, suc, length, slice_get, get_or, ◌<◌, ◌≤◌, ◌≡◌, ◌↔◌, ◌⊎◌, Bool, true, false, ◌&&◌, cond, Option, Some}
use Rattle.std.proofs.Common.{None, List, [], ◌∷◌, ◌++◌, map, filter, filter_map, flat_map, refl, sym, ap, ap₂, subst, ◌∙◌, arith}
use Rattle.std.proofs.Common.{true≢false, inl, inr, IfSome, take, slice_index_or}
use Rattle.std.proofs.lemmas.Bool.{cond-true, cond-false}
use Rattle.std.proofs.lemmas.List.Elements.{filter-append}
use Rattle.std.specs.List.{All, AllByRecursion, cons_option, list_all, Contains}
use Rattle.cube_laws.specs.Lists.{Among, Reordered}

-- a map after a filter by what it makes
pub map-filter : {X Y : Type 0} (f : X → Y) (p : Y → Bool) (xs : List X)
    → map f (filter (λ x. p (f x)) xs) ≡ filter p (map f xs)
map-filter f p [] = refl
map-filter f p (x ∷ xs) = grind (arith, map-filter f p xs, cond-true, cond-false)

pub filter_same : {X : Type 0} (p q : X → Bool) (xs : List X) → AllByRecursion (λ x. p x ≡ q x) xs
    → filter p xs ≡ filter q xs
filter_same p q [] h = refl
filter_same p q (x ∷ xs) h = ap₂ (λ b ys. cond b (x ∷ ys) ys) h.0 (filter_same p q xs h.1)

-- what holds of each kept item
pub from_filter : {X : Type 0} (P : X → Type 0) (p : X → Bool) (xs : List X) → AllByRecursion P (filter p xs)
    → AllByRecursion (λ x. p x ≡ true → P x) xs
from_filter P p [] h = tt
from_filter P p (x ∷ xs) h = go (from_filter P p xs) (p x) refl h
  where
    go : (AllByRecursion P (filter p xs) → AllByRecursion (λ x. p x ≡ true → P x) xs) → (b : Bool) → p x ≡ b
        → AllByRecursion P (cond b (x ∷ filter p xs) (filter p xs)) → AllByRecursion (λ x. p x ≡ true → P x) (x ∷ xs)
    go more true e k = (λ _. k.0, more k.1)
    go more false e k = (λ t. absurd (true≢false (sym t ∙ e)), more k)

pub to_filter : {X : Type 0} (P : X → Type 0) (p : X → Bool) (xs : List X) → AllByRecursion (λ x. p x ≡ true → P x) xs
    → AllByRecursion P (filter p xs)
to_filter P p [] h = tt
to_filter P p (x ∷ xs) h = go (to_filter P p xs h.1) (p x) refl
  where
    go : AllByRecursion P (filter p xs) → (b : Bool) → p x ≡ b
        → AllByRecursion P (cond b (x ∷ filter p xs) (filter p xs))
    go more true e = (h.0 e, more)
    go more false e = more

pub all_map : {X : Type 0} (P Q : X → Type 0) (xs : List X) → ((x : X) → P x → Q x) → AllByRecursion P xs
    → AllByRecursion Q xs
all_map P Q [] f h = tt
all_map P Q (x ∷ xs) f h = (f x h.0, all_map P Q xs f h.1)

pub always : {X : Type 0} (P : X → Type 0) (xs : List X) → ((x : X) → P x) → AllByRecursion P xs
always P [] f = tt
always P (x ∷ xs) f = (f x, always P xs f)

module _ {Y : Type 0} where
  pub among_append : (x : Y) (xs ys : List Y) → Among x (xs ++ ys) ↔ (Among x xs ⊎ Among x ys)
  among_append x [] ys = (λ h. inr h, λ h. elim h [ inl k ↦ absurd k | inr k ↦ k ])
  among_append x (y ∷ xs) ys = (
    λ h. elim h [
      | inl e ↦ inl (inl e)
      | inr k ↦ elim ((among_append x xs ys).0 k) [ inl a ↦ inl (inr a) | inr b ↦ inr b ]
    ],
    λ h. elim h [
      | inl a ↦ elim a [ inl e ↦ inl e | inr k ↦ inr ((among_append x xs ys).1 (inl k)) ]
      | inr b ↦ inr ((among_append x xs ys).1 (inr b))
    ],
  )

module _ {X Y : Type 0} where
  pub among_map : (f : X → Y) (y : Y) (xs : List X) → Among y (map f xs) → (x : X) × Among x xs × (y ≡ f x)
  among_map f y [] h = absurd h
  among_map f y (x ∷ xs) h = elim h [
    | inl e ↦ (x, inl refl, e)
    | inr k ↦ let r : (x : X) × Among x xs × (y ≡ f x)
        = among_map f y xs k in (r.0, inr r.1, r.2)
  ]

  pub map_among : (f : X → Y) (x : X) (xs : List X) → Among x xs → Among (f x) (map f xs)
  map_among f x [] h = absurd h
  map_among f x (z ∷ xs) h = elim h [ inl e ↦ inl (ap f e) | inr k ↦ inr (map_among f x xs k) ]

  pub among_flat_map : (f : X → List Y) (y : Y) (xs : List X) → Among y (flat_map f xs)
      ↔ ((x : X) × Among x xs × Among y (f x))
  among_flat_map f y [] = (λ h. absurd h, λ h. absurd h.1)
  among_flat_map f y (x ∷ xs) = (
    λ h. elim ((among_append y (f x) (flat_map f xs)).0 h) [
      | inl a ↦ (x, inl refl, a)
      | inr b ↦ let r : (x : X) × Among x xs × Among y (f x) = (among_flat_map f y xs).0 b in (r.0, inr r.1, r.2)
    ],
    λ h. (among_append y (f x) (flat_map f xs)).1
        (elim h.1 [
          | inl e ↦ inl (subst (λ z. Among y (f z)) e h.2)
          | inr k ↦ inr ((among_flat_map f y xs).1 (h.0, k, h.2))
        ]),
  )

module _ {X : Type 0} where
  pub among_filter : (p : X → Bool) (x : X) (xs : List X) → Among x xs → p x ≡ true → Among x (filter p xs)
  among_filter p x [] h e = absurd h
  among_filter p x (y ∷ xs) h e = go (among_filter p x xs) (p y) refl h
    where
      go : (Among x xs → p x ≡ true → Among x (filter p xs)) → (b : Bool) → p y ≡ b → (x ≡ y) ⊎ Among x xs
          → Among x (cond b (y ∷ filter p xs) (filter p xs))
      go more true is (inl k) = inl k
      go more true is (inr k) = inr (more k e)
      go more false is (inl k) = absurd (true≢false (sym e ∙ ap p k ∙ is))
      go more false is (inr k) = more k e

  pub filter_among : (p : X → Bool) (x : X) (xs : List X) → Among x (filter p xs) → Among x xs × (p x ≡ true)
  filter_among p x [] h = absurd h
  filter_among p x (y ∷ xs) h = go (filter_among p x xs) (p y) refl h
    where
      go : (Among x (filter p xs) → Among x xs × (p x ≡ true)) → (b : Bool) → p y ≡ b
          → Among x (cond b (y ∷ filter p xs) (filter p xs)) → ((x ≡ y) ⊎ Among x xs) × (p x ≡ true)
      go more true is (inl k) = (inl k, ap p k ∙ is)
      go more true is (inr k) = (inr (more k).0, (more k).1)
      go more false is k = (inr (more k).0, (more k).1)

  pub all_at : (P : X → Type 0) (x : X) (xs : List X) → AllByRecursion P xs → Among x xs → P x
  all_at P x [] a h = absurd h
  all_at P x (y ∷ xs) a h = elim h [ inl e ↦ subst P (sym e) a.0 | inr k ↦ all_at P x xs a.1 k ]

  pub all_from : (P : X → Type 0) (xs : List X) → ((x : X) → Among x xs → P x) → AllByRecursion P xs
  all_from P [] h = tt
  all_from P (x ∷ xs) h = (h x (inl refl), all_from P xs (λ y k. h y (inr k)))

pub filter_none : {X : Type 0} (p : X → Bool) (xs : List X) → AllByRecursion (λ x. p x ≡ false) xs → filter p xs ≡ []
filter_none p [] h = refl
filter_none p (x ∷ xs) h = cond-false _ _ _ h.0 ∙ filter_none p xs h.1

-- a filter after one that it implies
pub filter_filter : {X : Type 0} (p q : X → Bool) (xs : List X) → ((x : X) → p x ≡ true → q x ≡ true)
    → filter p (filter q xs) ≡ filter p xs
filter_filter p q [] h = refl
filter_filter p q (x ∷ xs) h = go (filter_filter p q xs h) (p x) (q x) refl refl (h x)
  where
    go : filter p (filter q xs) ≡ filter p xs → (b d : Bool) → p x ≡ b → q x ≡ d → (p x ≡ true → q x ≡ true)
        → filter p (cond d (x ∷ filter q xs) (filter q xs)) ≡ cond b (x ∷ filter p xs) (filter p xs)
    go more true true e k i = cond-true _ _ _ e ∙ ap (λ ys. x ∷ ys) more
    go more true false e k i = absurd (true≢false (sym (i e) ∙ k))
    go more false true e k i = cond-false _ _ _ e ∙ more
    go more false false e k i = more

-- a filter by two tests is two filters
pub filter_and : {X : Type 0} (p q : X → Bool) (xs : List X) → filter (λ x. p x && q x) xs ≡ filter q (filter p xs)
filter_and p q [] = refl
filter_and p q (x ∷ xs) = go (p x) (q x) refl (filter_and p q xs)
  where
    go : (b d : Bool) → q x ≡ d → filter (λ x. p x && q x) xs ≡ filter q (filter p xs)
        → cond (b && d) (x ∷ filter (λ x. p x && q x) xs) (filter (λ x. p x && q x) xs)
        ≡ filter q (cond b (x ∷ filter p xs) (filter p xs))
    go true true e more = ap (λ ys. x ∷ ys) more ∙ sym (cond-true _ _ _ e)
    go true false e more = more ∙ sym (cond-false _ _ _ e)
    go false d e more = more

module _ {X : Type 0} where
  pub filter-insert_apart : (p : X → Bool) (xs : List X) (r : X) (ys : List X) → p r ≡ false
      → filter p (xs ++ r ∷ ys) ≡ filter p (xs ++ ys)
  filter-insert_apart p [] r ys h = cond-false _ _ _ h
  filter-insert_apart p (x ∷ xs) r ys h = ap (λ zs. cond (p x) (x ∷ zs) zs) (filter-insert_apart p xs r ys h)

  pub all-insert : (P : X → Type 0) (xs : List X) (r : X) (ys : List X) → AllByRecursion P (xs ++ r ∷ ys)
      → AllByRecursion P (xs ++ ys) × P r
  all-insert P [] r ys h = (h.1, h.0)
  all-insert P (x ∷ xs) r ys h = let m = all-insert P xs r ys h.1 in ((h.0, m.0), m.1)

pub insert-all : {X : Type 0} (P : X → Type 0) (xs : List X) (r : X) (ys : List X) → AllByRecursion P (xs ++ ys) → P r
    → AllByRecursion P (xs ++ r ∷ ys)
insert-all P [] r ys h k = (k, h)
insert-all P (x ∷ xs) r ys h k = (h.0, insert-all P xs r ys h.1 k)

pub among_insert : {X : Type 0} (x : X) (xs : List X) (r : X) (ys : List X) → Among x (xs ++ r ∷ ys)
    ↔ ((x ≡ r) ⊎ Among x (xs ++ ys))
among_insert x [] r ys = (λ h. h, λ h. h)
among_insert x (y ∷ xs) r ys =
    let m = among_insert x xs r ys in (
      λ h. elim h [ inl e ↦ inr (inl e) | inr k ↦ elim (m.0 k) [ inl a ↦ inl a | inr b ↦ inr (inr b) ] ],
      λ h. elim h [ inl e ↦ inr (m.1 (inl e)) | inr k ↦ elim k [ inl a ↦ inl a | inr b ↦ inr (m.1 (inr b)) ] ],
    )

pub among_filter_map : {X Y : Type 0} (g : X → Option Y) (y : Y) (xs : List X) → Among y (filter_map g xs)
    ↔ ((x : X) × Among x xs × (g x ≡ Some y))
among_filter_map g y [] = (λ h. absurd h, λ h. absurd h.1)
among_filter_map {X = X} {Y = Y} g y (x ∷ xs) = go (g x) refl (among_filter_map g y xs)
  where
    go : (o : Option Y) → g x ≡ o → Among y (filter_map g xs) ↔ ((z : X) × Among z xs × (g z ≡ Some y))
        → Among y (cons_option o (filter_map g xs)) ↔ ((z : X) × Among z (x ∷ xs) × (g z ≡ Some y))
    go None e m = (
      λ h. let r = m.0 h in (r.0, inr r.1, r.2),
      λ h. m.1 (elim h.1 [
        | inl a ↦ (let no_value : None ≡ Some y = sym e ∙ sym (ap g a) ∙ h.2 in cc)
        | inr b ↦ (h.0, b, h.2)
      ]),
    )
    go (Some z) e m = (
      λ h. elim h [
        | inl a ↦ (x, inl refl, e ∙ ap (λ w. Some w) (sym a))
        | inr b ↦ let r = m.0 b in
            (r.0, inr r.1, r.2)
      ],
      λ h. elim h.1 [
        | inl a ↦ inl (let is : Some y ≡ Some z = sym h.2 ∙ ap g a ∙ e in cc)
        | inr b ↦ inr (m.1 (h.0, b, h.2))
      ],
    )

pub map_same : {X Y : Type 0} (f g : X → Y) (xs : List X) → ((x : X) → f x ≡ g x) → map f xs ≡ map g xs
map_same f g [] h = refl
map_same f g (x ∷ xs) h = ap₂ (λ y ys. y ∷ ys) (h x) (map_same f g xs h)

pub list_all_same : {X : Type 0} (p q : X → Bool) (xs : List X) → ((x : X) → p x ≡ q x) → list_all p xs ≡ list_all q xs
list_all_same p q [] h = refl
list_all_same p q (x ∷ xs) h = ap₂ (λ a b. a && b) (h x) (list_all_same p q xs h)

-- filters keep the order
pub filter-insert : {X : Type 0} (p : X → Bool) (xs : List X) (r : X) (ys : List X) → p r ≡ true
    → filter p (xs ++ r ∷ ys) ≡ filter p xs ++ r ∷ filter p ys
filter-insert p xs r ys h = filter-append p xs (r ∷ ys) ∙ ap (λ zs. filter p xs ++ zs) (cond-true _ _ _ h)

pub filter-reordered : {X : Type 0} (p : X → Bool) (xs ys : List X) → Reordered xs ys
    → Reordered (filter p xs) (filter p ys)
filter-reordered p [] ys h = ap (filter p) h
filter-reordered {X} p (x ∷ xs) ys (front, back, e, more) = go (filter-reordered p xs (front ++ back) more) (p x) refl
  where
    go : Reordered (filter p xs) (filter p (front ++ back)) → (b : Bool) → p x ≡ b
        → Reordered (cond b (x ∷ filter p xs) (filter p xs)) (filter p ys)
    go rest true is = (
      filter p front,
      filter p back,
      ap (filter p) e ∙ filter-insert p front x back is,
      subst (Reordered (filter p xs)) (filter-append p front back) rest,
    )
    go rest false is = subst (Reordered (filter p xs)) (sym (filter-insert_apart p front x back is)
        ∙ ap (filter p) (sym e)) rest

pub among-reordered : {X : Type 0} (xs ys : List X) → Reordered xs ys → (z : X) → Among z ys ↔ Among z xs
among-reordered [] ys h z = (λ m. subst (Among z) h m, λ m. absurd m)
among-reordered (x ∷ xs) ys (front, back, e, more) z =
    let i = among_insert z front x back in
    let m = among-reordered xs (front ++ back) more z in (
      λ k. elim (i.0 (subst (Among z) e k)) [ inl a ↦ inl a | inr b ↦ inr (m.0 b) ],
      λ k. subst (Among z) (sym e) (i.1 (elim k [ inl a ↦ inl a | inr b ↦ inr (m.1 b) ])),
    )

module _ {X : Type 0} where
  pub filter-le : (p : X → Bool) (xs : List X) → length (filter p xs) ≤ length xs
  filter-le p [] = omega arith
  filter-le p (x ∷ xs) = go (p x) (filter-le p xs)
    where
      go : (b : Bool) → length (filter p xs) ≤ length xs
          → length (cond b (x ∷ filter p xs) (filter p xs)) ≤ suc (length xs)
      go true h = omega arith
      go false h = omega arith

  -- a filter that takes nothing away
  pub filter_all : (p : X → Bool) (xs : List X) → AllByRecursion (λ x. p x ≡ true) xs → filter p xs ≡ xs
  filter_all p [] h = refl
  filter_all p (x ∷ xs) h = cond-true _ _ _ h.0 ∙ ap (λ ys. x ∷ ys) (filter_all p xs h.1)

  pub all_passed : (p : X → Bool) (xs : List X) → length (filter p xs) ≡ length xs → AllByRecursion (λ x. p x ≡ true) xs
  all_passed p [] h = tt
  all_passed p (x ∷ xs) h = go (p x) refl (all_passed p xs) h
    where
      go : (b : Bool) → p x ≡ b → (length (filter p xs) ≡ length xs → AllByRecursion (λ y. p y ≡ true) xs)
          → length (cond b (x ∷ filter p xs) (filter p xs)) ≡ suc (length xs)
          → AllByRecursion (λ y. p y ≡ true) (x ∷ xs)
      go true e more k = (e, more (omega arith))
      go false e more k = let l : length (filter p xs) ≤ length xs = filter-le p xs in absurd (omega arith)

  pub length_filter-insert : (p : X → Bool) (xs : List X) (r : X) (ys : List X) → p r ≡ true
      → length (filter p (xs ++ r ∷ ys)) ≡ suc (length (filter p (xs ++ ys)))
  length_filter-insert p [] r ys h = ap length (cond-true _ _ _ h)
  length_filter-insert p (x ∷ xs) r ys h = go (p x) (length_filter-insert p xs r ys h)
    where
      go : (b : Bool) → length (filter p (xs ++ r ∷ ys)) ≡ suc (length (filter p (xs ++ ys)))
          → length (cond b (x ∷ filter p (xs ++ r ∷ ys)) (filter p (xs ++ r ∷ ys)))
          ≡ suc (length (cond b (x ∷ filter p (xs ++ ys)) (filter p (xs ++ ys))))
      go true more = ap suc more
      go false more = more

-- all items pass, or there is one that does not
pub all_or_one : {X : Type 0} (p : X → Bool) (xs : List X) → AllByRecursion (λ x. p x ≡ true) xs
    ⊎ ((x : X) × Among x xs × (p x ≡ false))
all_or_one p [] = inl tt
all_or_one {X = X} p (x ∷ xs) = go (p x) refl (all_or_one p xs)
  where
    go : (b : Bool) → p x ≡ b → AllByRecursion (λ y. p y ≡ true) xs ⊎ ((y : X) × Among y xs × (p y ≡ false))
        → AllByRecursion (λ y. p y ≡ true) (x ∷ xs) ⊎ ((y : X) × Among y (x ∷ xs) × (p y ≡ false))
    go true e (inl h) = inl (e, h)
    go true e (inr h) = inr (h.0, inr h.1, h.2)
    go false e h = inr (x, inl refl, e)

module _ {X : Type 0} where
  pub all_append : (P : X → Type 0) (xs ys : List X) → AllByRecursion P xs → AllByRecursion P ys
      → AllByRecursion P (xs ++ ys)
  all_append P [] ys h g = g
  all_append P (x ∷ xs) ys h g = (h.0, all_append P xs ys h.1 g)

  pub all_prefix : (P : X → Type 0) (xs ys : List X) → AllByRecursion P (xs ++ ys) → AllByRecursion P xs
  all_prefix P [] ys h = tt
  all_prefix P (x ∷ xs) ys h = (h.0, all_prefix P xs ys h.1)

  -- the item at a place
  pub item_at : (xs : List X) (k : ℕ) → k < length xs → (x : X) × (slice_get xs k ≡ Some x)
  item_at [] k h = absurd (omega arith)
  item_at (x ∷ xs) zero h = (x, refl)
  item_at (x ∷ xs) (suc k) h = item_at xs k (omega arith)

  pub get_among : (xs : List X) (k : ℕ) (x : X) → slice_get xs k ≡ Some x → Among x xs
  get_among [] k x h = cc
  get_among (y ∷ xs) zero x h = inl (let is : x ≡ y = cc in is)
  get_among (y ∷ xs) (suc k) x h = inr (get_among xs k x h)

  pub among-length : (x : X) (xs : List X) → Among x xs → 0 < length xs
  among-length x [] h = absurd h
  among-length x (y ∷ xs) h = omega arith

pub none_some : {X : Type 0} {x : X} → None ≡ Some x → ⊥
none_some e = cc

-- what holds of an option's value holds of the one that it has
pub some_of : {X : Type 0} (P : X → Type 0) (o : Option X) (x : X) → o ≡ Some x → IfSome o P → P x
some_of P None x e h = cc
some_of P (Some y) x e h = let is : y ≡ x = cc in subst P is h

module _ {X : Type 0} where
  -- an item that is among others stands at a place
  pub among_get : (x : X) (xs : List X) → Among x xs → (k : ℕ) × (slice_get xs k ≡ Some x)
  among_get x [] m = absurd m
  among_get x (y ∷ xs) m = elim m [
    | inl e ↦ (0, ap (λ z. Some z) (sym e))
    | inr n ↦ let r = among_get x xs n in
        (suc r.0, r.1)
  ]

  pub among_left : (x : X) (xs ys : List X) → Among x xs → Among x (xs ++ ys)
  among_left x xs ys m = (among_append x xs ys).1 (inl m)

  pub take_all : (xs : List X) (k : ℕ) → length xs ≤ k → take k xs ≡ xs
  take_all [] zero h = refl
  take_all [] (suc k) h = refl
  take_all (x ∷ xs) zero h = absurd (omega arith)
  take_all (x ∷ xs) (suc k) h = ap (λ ys. x ∷ ys) (take_all xs k (omega arith))

  pub got : (xs : List X) (k : ℕ) (d : X) → k < length xs → slice_get xs k ≡ Some (slice_index_or xs k d)
  got [] k d l = absurd (omega (arith, l))
  got (x ∷ xs) zero d l = refl
  got (x ∷ xs) (suc k) d l = got xs k d (omega (arith, l))

  -- std's word for an item of a list goes by places; ours by cases on the list, as the proofs do
  pub among_contains : (x : X) (xs : List X) → Among x xs → Contains xs x
  among_contains x [] m = absurd m
  among_contains x (y ∷ xs) m = elim m [
    | inl e ↦ (0, omega arith, sym e)
    | inr n ↦ let r = among_contains x xs n in
        (suc r.0, omega (arith, r.1), r.2)
  ]

  pub contains_among : (x : X) (xs : List X) → Contains xs x → Among x xs
  contains_among x xs c = get_among xs c.0 x (got xs c.0 x c.1 ∙ ap (λ z. Some z) c.2)

module _ {X : Type 0} where
  -- what holds at each place, and what holds of each item
  pub all_among : (P : X → Type 0) (xs : List X) → All P xs → (x : X) → Among x xs → P x
  all_among P [] h x m = absurd m
  all_among P (y ∷ xs) h x m
      = elim m [
        | inl e ↦ subst P (sym e) (h 0 y (omega arith))
        | inr n ↦ all_among P xs (λ k d l. h (suc k) d (omega arith)) x n
      ]

  pub among_all : (P : X → Type 0) (xs : List X) → ((x : X) → Among x xs → P x) → All P xs
  among_all P [] f = λ k d l. absurd (omega arith)
  among_all P (x ∷ xs) f = λ k d l. go k d l (among_all P xs (λ y m. f y (inr m)))
    where
      go : (k : ℕ) (d : X) → k < length (x ∷ xs) → All P xs → P (get_or (x ∷ xs) k d)
      go zero d l rest = f x (inl refl)
      go (suc k) d l rest = rest k d (omega arith)
