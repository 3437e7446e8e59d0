-- Parts of lists, and lists made from a function of the place.
use Rattle.std.proofs.Common.{◌≡◌, ◌<◌, ◌≤◌, ◌+◌, ◌-◌, ◌∙◌, ℕ, List, ◌∷◌, ◌++◌, length, get_or, take, drop, refl, ap, arith, map, suc}
use Rattle.std.specs.Prelude.{slice_range}
use Rattle.std.specs.List.{range_with_len}
use Rattle.std.proofs.lemmas.List.{drop-append-le, take-append-le, length-drop, drop_at, take_all, drop_more, length-take-le, get_or-take}
use Rattle.std.proofs.lemmas.List.{get_or-drop}
use Rattle.std.proofs.lemmas.List.FromFn.{length-map-range_with_len, get_or-map-range_with_len, fill_by_all}

-- two functions that agree on numbers less than n
pub same-below : {X : Type 0} (d : X) (f g : ℕ → X) (n : ℕ) → ((k : ℕ) → k < n → f k ≡ g k)
    → map f (range_with_len 0 n) ≡ map g (range_with_len 0 n)
same-below d f g n same =
    fill_by_all g (map f (range_with_len 0 n)) n d (length-map-range_with_len f 0 n)
    (λ k h. get_or-map-range_with_len f 0 n k k d h (omega arith) ∙ same k h)

pub range-append : {X : Type 0} (xs ys : List X) (i j : ℕ) → i ≤ j → j ≤ length xs
    → slice_range (xs ++ ys) i j ≡ slice_range xs i j
range-append {X} xs ys i j low high =
    ap (λ (zs : List X). take (j - i) zs) (drop-append-le i xs ys (omega arith))
    ∙ take-append-le (j - i) (drop i xs) ys (omega (arith, length-drop i xs))

pub range-after : {X : Type 0} (xs ys : List X) (i j : ℕ) → length xs ≡ i → i + length ys ≡ j
    → slice_range (xs ++ ys) i j ≡ ys
range-after {X} xs ys i j low high =
    ap (λ (zs : List X). take (j - i) zs) (drop_at xs ys i low) ∙ take_all (j - i) ys (omega arith)

take-one-more : {X : Type 0} (n m : ℕ) (x : X) (xs : List X) → n ≡ suc m → take n (x ∷ xs) ≡ x ∷ take m xs
take-one-more n m x xs e = rw e refl

-- a part begins with its first element
pub range-more : {X : Type 0} (xs : List X) (i j : ℕ) (d : X) → i < j → j ≤ length xs
    → slice_range xs i j ≡ get_or xs i d ∷ slice_range xs (i + 1) j
range-more {X} xs i j d low high =
    ap (λ (zs : List X). take (j - i) zs) (drop_more xs i d (omega arith))
    ∙ take-one-more (j - i) (j - (i + 1)) (get_or xs i d) (drop (i + 1) xs) (omega arith)

pub length-range : {X : Type 0} (xs : List X) (i j : ℕ) → i ≤ j → j ≤ length xs → length (slice_range xs i j) ≡ j - i
length-range xs i j low high = length-take-le (j - i) (drop i xs) (omega (arith, length-drop i xs))

pub get_or-range : {X : Type 0} (xs : List X) (i j k : ℕ) (d : X) → i + k < j
    → get_or (slice_range xs i j) k d ≡ get_or xs (i + k) d
get_or-range xs i j k d h = get_or-take (j - i) (drop i xs) k d (omega arith) ∙ get_or-drop i xs k d
