-- Two lists of which each item agrees with the other's, one item more.
use Rattle.std.proofs.Common.{◌≡◌, ◌⊎◌, inl, inr, ℕ, zero, suc, ◌+◌, Some, List, [], ◌∷◌, ◌++◌, length, map, take, slice_get, refl, sym, ap}
use Rattle.std.proofs.Common.{ap₂, subst, ◌∙◌, arith}
use Rattle.tree_laws.proofs.CallerLemmas.{some_same}

pub alike_next : {X Y Z : Type 0} (f : X → Z) (g : Y → Z) (xs : List X) (ys : List Y) (i : ℕ) (x : X) (y : Y)
    → slice_get xs i ≡ Some x → slice_get ys i ≡ Some y → f x ≡ g y → map f (take i xs) ≡ map g (take i ys)
    → map f (take (i + 1) xs) ≡ map g (take (i + 1) ys)
alike_next {X} {Y} {Z} f g xs ys i x y a b same h =
    let next : i + 1 ≡ suc i = omega arith in
    subst (λ n. map f (take n xs) ≡ map g (take n ys)) (sym next) (go xs ys i a b h)
  where
    go : (xs : List X) (ys : List Y) (i : ℕ) → slice_get xs i ≡ Some x → slice_get ys i ≡ Some y
        → map f (take i xs) ≡ map g (take i ys) → map f (take (suc i) xs) ≡ map g (take (suc i) ys)
    go [] ys i a b h = cc
    go (z ∷ xs) [] i a b h = cc
    go (z ∷ xs) (w ∷ ys) zero a b h = ap (λ v. v ∷ []) (ap f (some_same a) ∙ same ∙ sym (ap g (some_same b)))
    go (z ∷ xs) (w ∷ ys) (suc i) a b h =
        let first : f z ≡ g w = cc in
        let rest : map f (take i xs) ≡ map g (take i ys) = cc in
        ap₂ (λ v vs. v ∷ vs) first (go xs ys i a b rest)

-- an item of a list with one more at its end
pub pushed : {X : Type 0} (xs : List X) (y z : X) (k : ℕ) → slice_get (xs ++ y ∷ []) k ≡ Some z
    → (slice_get xs k ≡ Some z) ⊎ ((k ≡ length xs) × (y ≡ z))
pushed [] y z zero e = inr (refl, some_same e)
pushed [] y z (suc k) e = cc
pushed (x ∷ xs) y z zero e = inl e
pushed (x ∷ xs) y z (suc k) e = elim (pushed xs y z k e) [
  | inl old ↦ inl old
  | inr last ↦ inr (ap suc last.0, last.1)
]
