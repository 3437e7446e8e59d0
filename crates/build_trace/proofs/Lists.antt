-- Items of joined lists, and lists whose items are there once.
use Rattle.std.proofs.Common.{◌≡◌, ℕ, zero, suc, ◌<◌, ap, arith, List, [], ◌∷◌, ◌++◌, flat_map, inl, inr, ◌⊎◌, refl, sym, subst}
use Rattle.std.specs.List.{AllByRecursion}
use Rattle.cube_laws.specs.Lists.{Among}
use Rattle.cube_laws.proofs.CallerLemmas.{all_append, among_left}
use Rattle.tree_laws.proofs.CallerLemmas.{EachOnce}

module _ {X : Type 0} where
  pub among_right : (x : X) (xs ys : List X) → Among x ys → Among x (xs ++ ys)
  among_right x [] ys h = h
  among_right x (y ∷ xs) ys h = inr (among_right x xs ys h)

  pub among_either : (x : X) (xs ys : List X) → Among x (xs ++ ys) → Among x xs ⊎ Among x ys
  among_either x [] ys h = inr h
  among_either x (y ∷ xs) ys h
      = elim h [ inl e ↦ inl (inl e) | inr k ↦ elim (among_either x xs ys k) [ inl a ↦ inl (inr a) | inr b ↦ inr b ] ]

  pub once_append : (xs ys : List X) → EachOnce xs → EachOnce ys → ((x : X) → Among x xs → Among x ys → ⊥)
      → EachOnce (xs ++ ys)
  once_append [] ys h g apart = g
  once_append (x ∷ xs) ys h g apart = (
    λ k. elim (among_either x xs ys k) [ inl a ↦ h.0 a | inr b ↦ apart x (inl refl) b ],
    once_append xs ys h.1 g (λ z a b. apart z (inr a) b),
  )

module _ {V X : Type 0} (f : V → List X) where
  pub all_flat : (P : X → Type 0) (vs : List V) → ((v : V) → Among v vs → AllByRecursion P (f v))
      → AllByRecursion P (flat_map f vs)
  all_flat P [] h = tt
  all_flat P (v ∷ vs) h = all_append P (f v) (flat_map f vs) (h v (inl refl)) (all_flat P vs (λ w k. h w (inr k)))

  pub among_flat : (x : X) (v : V) (vs : List V) → Among v vs → Among x (f v) → Among x (flat_map f vs)
  among_flat x v [] h g = absurd h
  among_flat x v (w ∷ vs) h g = elim h [
    | inl e ↦ among_left x (f w) (flat_map f vs) (subst (λ z. Among x (f z)) e g)
    | inr k ↦ among_right x (f w) (flat_map f vs) (among_flat x v vs k g)
  ]

  pub flat_among : (x : X) (vs : List V) → Among x (flat_map f vs) → (v : V) × Among v vs × Among x (f v)
  flat_among x [] h = absurd h
  flat_among x (v ∷ vs) h = elim (among_either x (f v) (flat_map f vs) h) [
    | inl a ↦ (v, inl refl, a)
    | inr b ↦ let r : (w : V) × Among w vs × Among x (f w) = flat_among x vs b in (r.0, inr r.1, r.2)
  ]

  -- the lists of different values have nothing in common
  pub once_flat : (vs : List V) → EachOnce vs → ((v : V) → Among v vs → EachOnce (f v))
      → ((v w : V) (x : X) → Among x (f v) → Among x (f w) → Among v vs → Among w vs → v ≡ w) → EachOnce (flat_map f vs)
  once_flat [] h g apart = tt
  once_flat (v ∷ vs) h g apart =
      once_append (f v) (flat_map f vs) (g v (inl refl))
      (once_flat vs h.1 (λ w k. g w (inr k)) (λ w z x a b p q. apart w z x a b (inr p) (inr q)))
      (λ x a b. let r : (w : V) × Among w vs × Among x (f w) = flat_among x vs b in
      h.0 (subst (λ z. Among z vs) (sym (apart v r.0 x a r.2 (inl refl) (inr r.1))) r.1))

-- places

pub below_or : (l k : ℕ) → l < suc k → (l < k) ⊎ (l ≡ k)
below_or zero zero h = inr refl
below_or zero (suc k) h = inl (omega arith)
below_or (suc l) zero h = absurd (omega arith)
below_or (suc l) (suc k) h = elim (below_or l k (omega arith)) [ inl e ↦ inl (omega arith) | inr e ↦ inr (ap suc e) ]
