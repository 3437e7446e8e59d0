-- The pieces of a text that is hashed.
use Rattle.std.proofs.Common.{◌≡◌, ◌<◌, ◌+◌, ◌-◌, ℕ, List, [], ◌∷◌, arith, drop, length, refl, sym, take}
use Rattle.std.proofs.lemmas.List.{drop-drop, length-drop}
use Rattle.value_dict.specs.Hashing.{coefficient, step, value_after}

pub next_piece : (m v : ℕ) (xs : List ℕ) → 3 < length xs
    → value_after m v xs ≡ value_after m (step m v (coefficient (take 3 xs))) (drop 3 xs)
next_piece m v (a ∷ b ∷ c ∷ d ∷ more) more_than_three = refl
next_piece m v (a ∷ b ∷ c ∷ []) few = omega (few, arith)
next_piece m v (a ∷ b ∷ []) few = omega (few, arith)
next_piece m v (a ∷ []) few = omega (few, arith)
next_piece m v [] few = omega (few, arith)

-- the value after the piece that begins at a place
pub after_piece : (m v at : ℕ) (xs : List ℕ) → 3 < length xs - at
    → value_after m (step m v (coefficient (take ((at + 3) - at) (drop at xs)))) (drop (at + 3) xs)
    ≡ value_after m v (drop at xs)
after_piece m v at xs more =
    let three : (at + 3) - at ≡ 3 = omega arith in
    let long : 3 < length (drop at xs) = rw (length-drop at xs) more in
    rw three (rw (sym (drop-drop 3 at xs)) (sym (next_piece m v (drop at xs) long)))
