-- What the last place of a list that passes says.
use Rattle.std.proofs.Common.{◌≡◌, ℕ, ◌<◌, ◌≤◌, length, List, [], ◌∷◌, Bool, true, false, cond, refl, ap, arith, take, get_or, zero, suc}
use Rattle.std.proofs.Common.{nat_eq, map, ◌∙◌}
use Rattle.std.specs.List.{All}
use Rattle.std.proofs.lemmas.List.Elements.{All-head, All-tail}
use Rattle.base_table.specs.Last.{last_of}

passes_first : {A : Type 0} (p : A → Bool) (x : A) (xs : List A) → last_of p (x ∷ xs) ≡ 1 → p x ≡ true
passes_first p x xs h = grind (arith, h)

passes_later : {A : Type 0} (p : A → Bool) (x : A) (xs : List A) (k : ℕ) → last_of p (x ∷ xs) ≡ suc (suc k)
    → last_of p xs ≡ suc k
passes_later p x xs k h = grind (arith, h)

-- the last place passes
pub last_passes : {A : Type 0} (p : A → Bool) (xs : List A) (k : ℕ) (d : A) → last_of p xs ≡ suc k
    → p (get_or xs k d) ≡ true
last_passes p [] k d h = absurd (omega arith)
last_passes p (x ∷ xs) zero d h = passes_first p x xs h
last_passes p (x ∷ xs) (suc k) d h = last_passes p xs k d (passes_later p x xs k h)

within_step : {A : Type 0} (p : A → Bool) (x : A) (xs : List A) → last_of p xs ≤ length xs
    → last_of p (x ∷ xs) ≤ suc (length xs)
within_step p x xs h = grind (arith, h)

pub last_within : {A : Type 0} (p : A → Bool) (xs : List A) → last_of p xs ≤ length xs
last_within p [] = omega arith
last_within p (x ∷ xs) = within_step p x xs (last_within p xs)

none_first : {A : Type 0} (p : A → Bool) (x : A) (xs : List A) → last_of p (x ∷ xs) ≡ 0 → p x ≡ false
none_first p x xs h = grind (arith, h)

none_later : {A : Type 0} (p : A → Bool) (x : A) (xs : List A) → last_of p (x ∷ xs) ≡ 0 → last_of p xs ≡ 0
none_later p x xs h = grind (arith, h)

-- where there is no last place, no place passes
pub none_passes : {A : Type 0} (p : A → Bool) (xs : List A) → last_of p xs ≡ 0 → (i : ℕ) (d : A) → i < length xs
    → p (get_or xs i d) ≡ false
none_passes p [] h i d lt = absurd (omega arith)
none_passes p (x ∷ xs) h zero d lt = none_first p x xs h
none_passes p (x ∷ xs) h (suc i) d lt = none_passes p xs (none_later p x xs h) i d (omega arith)

-- the last place, once the list is read through f
pub last_map : {A B : Type 0} (f : A → B) (p : B → Bool) (xs : List A)
    → last_of p (map f xs) ≡ last_of (λ x. p (f x)) xs
last_map f p [] = refl
last_map f p (x ∷ xs) = ap (λ n. cond (nat_eq n 0) (cond (p (f x)) 1 0) (suc n)) (last_map f p xs)

pub not_zero : (n : ℕ) → nat_eq (suc n) 0 ≡ false
not_zero n = grind arith

last_take_step : {A : Type 0} (p : A → Bool) (x : A) (xs : List A) (n : ℕ) → last_of p xs ≡ n
    → last_of p (take n xs) ≡ n → last_of p (take (cond (nat_eq n 0) (cond (p x) 1 0) (suc n)) (x ∷ xs))
    ≡ cond (nat_eq n 0) (cond (p x) 1 0) (suc n)
last_take_step p x xs zero e h = by (p x) refl
  where
    by : (b : Bool) → p x ≡ b → last_of p (take (cond b 1 0) (x ∷ xs)) ≡ cond b 1 0
    by true t = ap (λ (b : Bool). cond b 1 0) t
    by false t = refl
last_take_step p x xs (suc n) e h =
    let z : nat_eq (suc n) 0 ≡ false = not_zero n in
    rw z (ap (λ m. cond (nat_eq m 0) (cond (p x) 1 0) (suc m)) h
    ∙ ap (λ (b : Bool). cond b (cond (p x) 1 0) (suc (suc n))) z)

-- the last place stays the last of what stands up to it
pub last_take : {A : Type 0} (p : A → Bool) (xs : List A) → last_of p (take (last_of p xs) xs) ≡ last_of p xs
last_take p [] = refl
last_take p (x ∷ xs) = last_take_step p x xs (last_of p xs) refl (last_take p xs)

above_step : (id x : ℕ) (xs : List ℕ) → x < id → 0 ≡ last_of (nat_eq id) xs → 0 ≡ last_of (nat_eq id) (x ∷ xs)
above_step id x xs lt h = grind (arith, lt, h)

-- a number that is larger than all others has no place among them
pub none_above : (id top : ℕ) (ids : List ℕ) → top < id → All (λ other. other ≤ top) ids → 0 ≡ last_of (nat_eq id) ids
none_above id top [] lt h = refl
none_above id top (x ∷ xs) lt h =
    let first : x ≤ top = All-head (λ other. other ≤ top) x xs h in
    above_step id x xs (omega (arith, first, lt)) (none_above id top xs lt (All-tail (λ other. other ≤ top) x xs h))
