-- The next value of a cell, and the prefixes up to it.
use Rattle.std.proofs.Common.{◌≡◌, ℕ, zero, suc, ◌≤◌, ◌<◌, Option, Some, None, [], ◌∷◌, length, slice_get, refl, ap, ◌∙◌, arith}
use Rattle.std.specs.declared.cmp.Ordering.{Ordering}
use Rattle.cube_defs.specs.Cell.{Cell, depth, depth_with, cell_prefix}
use Rattle.cube_defs.specs.Tree.{next_value}

module _ {A : Type 0} (cmp : A → A → Ordering) where
  pub next-nil : (d : ℕ) → next_value cmp d [] ≡ d
  next-nil zero = refl
  next-nil (suc d) = omega arith

  pub next-suc : (d : ℕ) (e : Option A) (u : Cell A) → next_value cmp (suc d) (e ∷ u) ≡ suc (next_value cmp d u)
  next-suc d e u = omega arith

  pub next-none : (u : Cell A) → next_value cmp zero (None ∷ u) ≡ suc (next_value cmp zero u)
  next-none u = omega arith

  pub next-ge : (d : ℕ) (u : Cell A) → d ≤ next_value cmp d u
  next-ge d u = omega arith

  pub next-le : (d : ℕ) (u : Cell A) → d ≤ length u → next_value cmp d u ≤ length u
  next-le d [] h = omega (arith, next-nil d)
  next-le zero (None ∷ u) h = omega (arith, next-none u, next-le zero u (omega arith))
  next-le zero (Some v ∷ u) h = omega arith
  next-le (suc d) (e ∷ u) h = omega (arith, next-suc d e u, next-le d u (omega arith))

  -- there is no value before the next
  pub cell_prefix-next : (d : ℕ) (u : Cell A) → cell_prefix (next_value cmp d u) u ≡ cell_prefix d u
  cell_prefix-next d [] = refl
  cell_prefix-next zero (None ∷ u) = ap (λ k. cell_prefix k (None ∷ u)) (next-none u)
      ∙ ap (λ x. None ∷ x) (cell_prefix-next zero u)
  cell_prefix-next zero (Some v ∷ u) = refl
  cell_prefix-next (suc d) (e ∷ u) = ap (λ k. cell_prefix k (e ∷ u)) (next-suc d e u)
      ∙ ap (λ x. e ∷ x) (cell_prefix-next d u)

  pub next-entry : (d : ℕ) (u : Cell A) → next_value cmp d u < length u → (w : A)
      × (slice_get u (next_value cmp d u) ≡ Some (Some w))
  next-entry d [] h = absurd (omega arith)
  next-entry zero (None ∷ u) h = let r : (w : A) × (slice_get u (next_value cmp zero u) ≡ Some (Some w))
      = next-entry zero u (omega (arith, next-none u)) in (r.0, ap (λ k. slice_get (None ∷ u) k) (next-none u) ∙ r.1)
  next-entry zero (Some v ∷ u) h = (v, refl)
  next-entry (suc d) (e ∷ u) h = let r : (w : A) × (slice_get u (next_value cmp d u) ≡ Some (Some w))
      = next-entry d u (omega (arith, next-suc d e u)) in (r.0, ap (λ k. slice_get (e ∷ u) k) (next-suc d e u) ∙ r.1)

  -- before the next value there is Any
  pub before-next : (d : ℕ) (u : Cell A) (i : ℕ) → d ≤ i → i < next_value cmp d u → i < length u
      → slice_get u i ≡ Some None
  before-next d [] i h k l = absurd (omega arith)
  before-next zero (None ∷ u) zero h k l = refl
  before-next zero (None ∷ u) (suc i) h k l
      = before-next zero u i (omega arith) (omega (arith, next-none u)) (omega arith)
  before-next zero (Some v ∷ u) i h k l = absurd (omega arith)
  before-next (suc d) (e ∷ u) zero h k l = absurd (omega arith)
  before-next (suc d) (e ∷ u) (suc i) h k l
      = before-next d u i (omega arith) (omega (arith, next-suc d e u)) (omega arith)

  next-deeper : (e : Option A) (d i : ℕ) (u : Cell A) → i ≤ next_value cmp d u
      → suc i ≤ next_value cmp (depth_with e d) (e ∷ u)
  next-deeper None zero i u h = omega (arith, next-none u)
  next-deeper None (suc d) i u h = omega (arith, next-suc (suc d) None u)
  next-deeper (Some v) d i u h = omega (arith, next-suc d (Some v) u)

  -- a chain node's labels reach up to the dimension that it is cut before
  pub next-chain : (i : ℕ) (u : Cell A) → i ≤ length u → i ≤ next_value cmp (depth (cell_prefix i u)) u
  next-chain i [] h = omega (arith)
  next-chain zero (e ∷ u) h = omega arith
  next-chain (suc i) (e ∷ u) h = next-deeper e (depth (cell_prefix i u)) i u (next-chain i u (omega arith))

  -- all prefixes between are the same
  pub cell_prefix-between : (d i : ℕ) (u : Cell A) → d ≤ i → i ≤ next_value cmp d u → cell_prefix i u ≡ cell_prefix d u
  cell_prefix-between d i [] h k = refl
  cell_prefix-between zero zero (e ∷ u) h k = refl
  cell_prefix-between zero (suc i) (None ∷ u) h k
      = ap (λ x. None ∷ x) (cell_prefix-between zero i u (omega arith) (omega (arith, next-none u)))
  cell_prefix-between zero (suc i) (Some v ∷ u) h k = absurd (omega arith)
  cell_prefix-between (suc d) zero (e ∷ u) h k = absurd (omega arith)
  cell_prefix-between (suc d) (suc i) (e ∷ u) h k
      = ap (λ x. e ∷ x) (cell_prefix-between d i u (omega arith) (omega (arith, next-suc d e u)))
