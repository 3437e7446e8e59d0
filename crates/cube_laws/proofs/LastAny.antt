-- The last dimension of Any of a cell that generalizes a tuple.
use Rattle.std.proofs.Common.{◌≡◌, ◌⊎◌, ℕ, zero, suc, ◌<◌, Bool, true, Option, Some, None, List, [], ◌∷◌, length, refl, sym, subst, ap, ap₂}
use Rattle.std.proofs.Common.{◌∙◌, true≢false, arith, slice_get, inl, inr}
use Rattle.std.proofs.lemmas.Bool.{and_parts}
use Rattle.cube_defs.specs.Cell.{Cell, entry_leq, leq, cell_of, cell_prefix}
use Rattle.cube_laws.specs.Parts.{IsLastAny}
use Rattle.cube_laws.proofs.Cells.{IsEquality}

module _ {A : Type 0} {eq : A → A → Bool} (law : IsEquality eq) where
  -- among the cells that generalize one tuple, i and the prefix before it say which class it is
  pub determined : (t : List A) (u w : Cell A) (i : ℕ) → leq eq u (cell_of t) ≡ true → leq eq w (cell_of t) ≡ true
      → length u ≡ length w → IsLastAny u i → IsLastAny w i → cell_prefix i u ≡ cell_prefix i w → u ≡ w
  determined t [] [] i h g l p q k = refl
  determined t [] (f ∷ w) i h g l p q k = absurd (omega arith)
  determined t (e ∷ u) [] i h g l p q k = absurd (omega arith)
  determined [] (e ∷ u) (f ∷ w) i h g l p q k = absurd (true≢false (sym h))
  determined (x ∷ t) (e ∷ u) (f ∷ w) zero h g l p q k =
      let a : e ≡ None = let z = p.any in cc in
      let b : f ≡ None = let z = q.any in cc in
      ap₂ (λ y ys. y ∷ ys) (a ∙ sym b)
      (all_values t u w (and_parts (entry_leq eq e (Some x)) (leq eq u (cell_of t)) h).1
      (and_parts (entry_leq eq f (Some x)) (leq eq w (cell_of t)) g).1 (omega arith)
      (λ k m. p.last (suc k) (omega arith) m) (λ k m. q.last (suc k) (omega arith) m))
    where
      same_value : (e f : Option A) (x : A) → entry_leq eq e (Some x) ≡ true → entry_leq eq f (Some x) ≡ true
          → (e ≡ None → ⊥) → (f ≡ None → ⊥) → e ≡ f
      same_value None f x h g a b = absurd (a refl)
      same_value (Some v) None x h g a b = absurd (b refl)
      same_value (Some v) (Some w) x h g a b = ap (λ y. Some y) (law.exact v x h ∙ sym (law.exact w x g))

      all_values : (t : List A) (u w : Cell A) → leq eq u (cell_of t) ≡ true → leq eq w (cell_of t) ≡ true
          → length u ≡ length w → ((k : ℕ) → slice_get u k ≡ Some None → ⊥)
          → ((k : ℕ) → slice_get w k ≡ Some None → ⊥) → u ≡ w
      all_values t [] [] h g l a b = refl
      all_values t [] (f ∷ w) h g l a b = absurd (omega arith)
      all_values t (e ∷ u) [] h g l a b = absurd (omega arith)
      all_values [] (e ∷ u) (f ∷ w) h g l a b = absurd (true≢false (sym h))
      all_values (x ∷ t) (e ∷ u) (f ∷ w) h g l a b =
          let c = and_parts (entry_leq eq e (Some x)) (leq eq u (cell_of t)) h in
          let d = and_parts (entry_leq eq f (Some x)) (leq eq w (cell_of t)) g in
          ap₂ (λ y ys. y ∷ ys) (same_value e f x c.0 d.0 (λ m. a 0 (ap (λ y. Some y) m))
          (λ m. b 0 (ap (λ y. Some y) m)))
          (all_values t u w c.1 d.1 (omega arith) (λ k m. a (suc k) m) (λ k m. b (suc k) m))
  determined (x ∷ t) (e ∷ u) (f ∷ w) (suc i) h g l p q k =
      ap₂ (λ y ys. y ∷ ys) (cc) (determined t u w i (and_parts (entry_leq eq e (Some x)) (leq eq u (cell_of t)) h).1
      (and_parts (entry_leq eq f (Some x)) (leq eq w (cell_of t)) g).1 (omega arith)
      (record { any = p.any; last = λ k l m. p.last (suc k) (omega arith) m })
      (record { any = q.any; last = λ k l m. q.last (suc k) (omega arith) m }) (cc))

  last_any_after : (e : Option A) (u : Cell A) (i : ℕ) → IsLastAny u i → IsLastAny (e ∷ u) (suc i)
  last_any_after e u i h = record { any = h.any; last = behind }
    where
      behind : (k : ℕ) → suc i < k → slice_get (e ∷ u) k ≡ Some None → ⊥
      behind zero l m = absurd (omega arith)
      behind (suc k) l m = h.last k (omega arith) m

  -- a cell that generalizes a tuple is the tuple, or has a last dimension of Any
  pub tuple_or_last_any : (u : Cell A) (t : List A) → leq eq u (cell_of t) ≡ true → length u ≡ length t
      → (u ≡ cell_of t) ⊎ ((i : ℕ) × IsLastAny u i)
  tuple_or_last_any [] [] h l = inl refl
  tuple_or_last_any [] (x ∷ t) h l = absurd (omega arith)
  tuple_or_last_any (e ∷ u) [] h l = absurd (omega arith)
  tuple_or_last_any (e ∷ u) (x ∷ t) h l
      = go e (and_parts (entry_leq eq e (Some x)) (leq eq u (cell_of t)) h).0
      (tuple_or_last_any u t (and_parts (entry_leq eq e (Some x)) (leq eq u (cell_of t)) h).1 (omega arith))
    where
      no_any : (t : List A) (k : ℕ) → slice_get (cell_of t) k ≡ Some None → ⊥
      no_any [] k m = cc
      no_any (y ∷ t) zero m = cc
      no_any (y ∷ t) (suc k) m = no_any t k m

      only : (k : ℕ) → 0 < k → slice_get (None ∷ cell_of t) k ≡ Some None → ⊥
      only zero g m = absurd (omega arith)
      only (suc k) g m = no_any t k m

      go : (e : Option A) → entry_leq eq e (Some x) ≡ true → (u ≡ cell_of t) ⊎ ((i : ℕ) × IsLastAny u i)
          → (e ∷ u ≡ cell_of (x ∷ t)) ⊎ ((i : ℕ) × IsLastAny (e ∷ u) i)
      go e g (inr k) = inr (suc k.0, last_any_after e u k.0 k.1)
      go (Some v) g (inl k) = inl (ap₂ (λ y ys. Some y ∷ ys) (law.exact v x g) k)
      go None g (inl k) = inr (0, subst (λ w. IsLastAny (None ∷ w) 0) (sym k) (record { any = refl; last = only }))
