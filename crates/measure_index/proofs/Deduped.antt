-- What `dedup` leaves has the keys that there were.
use Rattle.std.proofs.Common.{◌≡◌, Bool, true, false, cond, ◌||◌, List, [], ◌∷◌, refl, ap, ◌∙◌, true≢false}
use Rattle.std.specs.List.{dedup, dedup_from, list_any}

module _ {X : Type 0} (same : X → X → Bool) (test : X → Bool)
    (alike : (x y : X) → same x y ≡ true → test x ≡ test y) where
  any_from : (k : X) (xs : List X) → list_any test (dedup_from same k xs) ≡ (test k || list_any test xs)
  any_from k [] = refl
  any_from k (x ∷ xs) = go (same x k) refl (any_from k xs) (any_from x xs)
    where
      again : (a b r : Bool) → a ≡ b → (b || r) ≡ (b || (a || r))
      again true true r e = refl
      again true false r e = absurd (true≢false e)
      again false b r e = refl

      go : (b : Bool) → same x k ≡ b → list_any test (dedup_from same k xs) ≡ (test k || list_any test xs)
          → list_any test (dedup_from same x xs) ≡ (test x || list_any test xs)
          → list_any test (cond b (dedup_from same k xs) (k ∷ dedup_from same x xs))
          ≡ (test k || (test x || list_any test xs))
      go true e kept more = kept ∙ again (test x) (test k) (list_any test xs) (alike x k e)
      go false e kept more = ap (λ b. test k || b) more

  pub any_dedup : (xs : List X) → list_any test (dedup same xs) ≡ list_any test xs
  any_dedup [] = refl
  any_dedup (x ∷ xs) = any_from x xs
