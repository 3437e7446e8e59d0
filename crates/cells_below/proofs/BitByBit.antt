-- The tests of a number's bits, bit by bit.
use Rattle.std.proofs.Common.{◌≡◌, ℕ, ◌+◌, ◌<◌, ◌≤◌, Bool, true, false, not, cond, ◌||◌, List, [], ◌∷◌, ◌++◌, map, filter, length}
use Rattle.std.proofs.Common.{length-append, refl, sym, ap, ap₂, ◌∙◌, arith}
use Rattle.std.specs.List.{range_with_len}
use Rattle.std.proofs.lemmas.List.{map-append}
use Rattle.cube_defs.specs.Cell.{Cell}
use Rattle.cells_below.specs.Marks.{is_least, is_marked}
use Rattle.cells_below.specs.Numbers.{cell_of_number, has_bit, turned}
use Rattle.cells_below.proofs.Ranges.{one_fails, passes_more}
use Rattle.cube_laws.proofs.CallerLemmas.{filter_range_more}

module _ (marks : List Bool) (m : ℕ) where
  abbrev apart : ℕ → Bool
  apart k = not (has_bit m k) || not (is_marked marks (turned m k))

  pub least_more : (k : ℕ) → is_least marks k m ≡ true
      → (not (has_bit m k) || not (is_marked marks (turned m k))) ≡ true → is_least marks (k + 1) m ≡ true
  least_more k h e = passes_more apart k h e

  pub least_stops : (d k : ℕ) → k < d → has_bit m k ≡ true → is_marked marks (turned m k) ≡ true
      → false ≡ is_least marks d m
  least_stops d k l e f = sym (one_fails apart d k l (ap₂ (λ x y. not x || not y) e f))

module _ {A : Type 0} (u : Cell A) (p : ℕ → Bool) where
  -- one number more
  pub cells_more : (m : ℕ) → map (cell_of_number u) (filter p (range_with_len 0 m))
      ++ cond (p m) (cell_of_number u m ∷ []) [] ≡ map (cell_of_number u) (filter p (range_with_len 0 (m + 1)))
  cells_more m = sym (ap (map (cell_of_number u)) (filter_range_more p m)
      ∙ map-append (cell_of_number u) (filter p (range_with_len 0 m)) (cond (p m) (m ∷ []) [])
      ∙ ap (λ xs. map (cell_of_number u) (filter p (range_with_len 0 m)) ++ xs) (one (p m)))
    where
      one : (b : Bool) → map (cell_of_number u) (cond b (m ∷ []) []) ≡ cond b (cell_of_number u m ∷ []) []
      one true = refl
      one false = refl

-- a cell that may be kept
pub kept_same : {X : Type 0} (b p : Bool) (x y : X) → b ≡ p → (b ≡ true → x ≡ y)
    → cond b (x ∷ []) [] ≡ cond p (y ∷ []) []
kept_same true p x y e h = ap₂ (λ q z. cond q (z ∷ []) []) e (h refl)
kept_same false p x y e h = ap (λ q. cond q (y ∷ []) []) e

pub one_more : {X : Type 0} (b : Bool) (x : X) (xs : List X) → length (xs ++ cond b (x ∷ []) []) ≤ length xs + 1
one_more true x xs = omega (arith, length-append xs (x ∷ []))
one_more false x xs = omega (arith, length-append xs [])
