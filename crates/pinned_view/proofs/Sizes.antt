-- How many images a list has: a map that has each number of another has no fewer.
use Rattle.std.proofs.Common.{◌≡◌, ◌∙◌, ℕ, zero, suc, ◌-◌, ◌≤◌, refl, sym, ap, cond, Bool, true, false, List, [], ◌∷◌, Option, Some, None}
use Rattle.std.proofs.Common.{is_some, arith, length, true≢false}
use Rattle.std.specs.FinMap as finmap
use Rattle.std.specs.Option.{option_or}
use Rattle.std.specs.Ordering.{eq_by_cmp, nat_cmp}
use Rattle.std.specs.Cmp.{eq_by_cmp_equiv, nat_cmp_total}
use Rattle.qc_arena.specs.Map.{ImageMap, Known}

-- a number of a map that isn't empty
a_number : (a : ImageMap) (n : ℕ) → finmap.len a ≡ suc n → (k : ℕ) × (finmap.contains_key a k ≡ true)
a_number a n len = by (finmap.entries a) refl
  where
    by : (es : List (ℕ × Option Known)) → finmap.entries a ≡ es → (k : ℕ) × (finmap.contains_key a k ≡ true)
    by [] e = absurd (omega (arith, len, finmap.len-entries a, ap (λ (x : List (ℕ × Option Known)). length x) e))
    by (x ∷ es) e = (
      x.0,
      ap is_some (finmap.get-entries a x.0 ∙ ap (λ (y : List (ℕ × Option Known)). finmap.find nat_cmp x.0 y) e)
          ∙ ap (λ b. is_some (cond b (Some x.1) (finmap.find nat_cmp x.0 es))) ((eq_by_cmp_equiv nat_cmp_total).refl x.0),
    )

is_there : (b : Option (Option Known)) (a : Option (Option Known)) → (b ≡ None → a ≡ None) → is_some a ≡ true → is_some b ≡ true
is_there (Some x) a h is = refl
is_there None a h is = absurd (never (ap is_some (h refl)) is)
  where
    never : is_some a ≡ false → is_some a ≡ true → ⊥
    never f t = true≢false (sym t ∙ f)

not_fewer : (n : ℕ) (a b : ImageMap) → finmap.len a ≡ n → ((q : ℕ) → finmap.get b q ≡ None → finmap.get a q ≡ None)
    → finmap.len a ≤ finmap.len b
not_fewer zero a b len has = omega (arith, len)
not_fewer (suc n) a b len has =
    let (k, in_a) = a_number a n len in
    let in_b = is_there (finmap.get b k) (finmap.get a k) (has k) in_a in
    let la = finmap.len-remove nat_cmp_total a k ∙ ap (λ t. cond t (finmap.len a - 1) (finmap.len a)) in_a in
    let lb = finmap.len-remove nat_cmp_total b k ∙ ap (λ t. cond t (finmap.len b - 1) (finmap.len b)) in_b in
    let more = not_fewer n (finmap.remove a k) (finmap.remove b k) (omega (arith, la, len)) (left k) in
    omega (arith, la, lb, more, len, positive k in_b)
  where
    left : (k q : ℕ) → finmap.get (finmap.remove b k) q ≡ None → finmap.get (finmap.remove a k) q ≡ None
    left k q none = finmap.get-remove nat_cmp_total a k q ∙ by (eq_by_cmp nat_cmp q k)
        (sym (finmap.get-remove nat_cmp_total b k q) ∙ none)
      where
        by : (t : Bool) → cond t None (finmap.get b q) ≡ None → cond t None (finmap.get a q) ≡ None
        by true e = refl
        by false e = has q e

    positive : (k : ℕ) → finmap.contains_key b k ≡ true → 1 ≤ finmap.len b
    positive k is = by (finmap.len b) refl
      where
        never : finmap.contains_key b k ≡ false → finmap.contains_key b k ≡ true → ⊥
        never f t = true≢false (sym t ∙ f)

        by : (m : ℕ) → finmap.len b ≡ m → 1 ≤ finmap.len b
        by zero e = absurd (never (ap (λ (m : ImageMap). finmap.contains_key m k) (finmap.empty_of_len b e)
            ∙ ap is_some (finmap.get-empty nat_cmp k)) is)
        by (suc m) e = omega (arith, e)

-- images that are merged are no fewer than the later ones
pub later_fewer : (older later both : ImageMap)
    → ((q : ℕ) → finmap.get both q ≡ option_or (finmap.get older q) (finmap.get later q))
    → finmap.len later ≤ finmap.len both
later_fewer older later both put = not_fewer (finmap.len later) later both refl
    (λ q none. none_in (finmap.get older q) (finmap.get later q) (sym (put q) ∙ none))
  where
    none_in : (a b : Option (Option Known)) → option_or a b ≡ None → b ≡ None
    none_in None b h = h
    none_in (Some x) b h = absurd cc
