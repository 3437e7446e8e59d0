-- To make one value Any is to take one bit from the number.
use Rattle.std.proofs.Common.{◌≡◌, ◌≢◌, ℕ, suc, ◌+◌, Bool, true, false, not, ◌&&◌, ◌||◌, Option, Some, None, [], ◌∷◌, ◌++◌, length, refl}
use Rattle.std.proofs.Common.{sym, ap, ap₂, ◌∙◌, arith}
use Rattle.std.specs.Prelude.{if◌then◌else◌, is_none, slice_index_or}
use Rattle.std.specs.List.{list_all, range_with_len}
use Rattle.std.proofs.Math.Bool.{and_comm, and-true}
use Rattle.std.proofs.lemmas.List.Folds.{list_all-append}
use Rattle.cube_defs.specs.Cell.{Cell, without}
use Rattle.cells_below.specs.Numbers.{cell_of_number, has_bit, turned}
use Rattle.cells_below.proofs.Turned.{turned_other, turned_same}
use Rattle.cells_below.proofs.Ranges.{range-more, list_all_range, list_all-shift}
use Rattle.cells_below.proofs.Cells.{none_kept, same_cell}
use Rattle.cube_laws.specs.Parts.{value_count}

module _ {A : Type 0} where
  -- no cell with one value less passes
  abbrev pub none_smaller : (Cell A → Bool) → Cell A → Bool
  none_smaller p c = list_all (λ i. is_none (slice_index_or c i None) || not (p (without c i)))
      (range_with_len 0 (length c))

  -- no number with one bit less has a cell that passes
  abbrev pub none_less : (Cell A → Bool) → Cell A → ℕ → Bool
  none_less p u m = list_all (λ k. not (has_bit m k) || not (p (cell_of_number u (turned m k))))
      (range_with_len 0 (value_count u))

  smaller_on : (p : Cell A → Bool) (f : Option A) (c : Cell A)
      → none_smaller p (f ∷ c) ≡ ((is_none f || not (p (None ∷ c))) && none_smaller (λ d. p (f ∷ d)) c)
  smaller_on p f c = ap (λ b. (is_none f || not (p (None ∷ c))) && b)
      (list_all-shift (λ i. is_none (slice_index_or (f ∷ c) i None) || not (p (without (f ∷ c) i))) 0 (length c))

  -- the bits less than that of the first value
  lower_bits : (p : Cell A → Bool) (e : Option A) (u : Cell A) (m : ℕ)
      → list_all (λ k. not (has_bit m k) || not (p (cell_of_number (e ∷ u) (turned m k))))
      (range_with_len 0 (value_count u))
      ≡ none_less (λ d. p ((if has_bit m (value_count u) then e else None) ∷ d)) u m
  lower_bits p e u m =
      list_all_range _ _ 0 (value_count u)
      (λ k l h. let ne : value_count u ≢ k = omega arith in
      ap (λ b. not (has_bit m k) || not (p ((if b then e else None) ∷ cell_of_number u (turned m k))))
      (turned_other m k (value_count u) ne))

  -- the first value's bit
  own_bit : (p : Cell A → Bool) (v : A) (u : Cell A) (m : ℕ)
      → (not (has_bit m (value_count u)) || not (p (cell_of_number (Some v ∷ u) (turned m (value_count u)))))
      ≡ (is_none (if has_bit m (value_count u) then Some v else None) || not (p (None ∷ cell_of_number u m)))
  own_bit p v u m = go (has_bit m (value_count u)) refl
    where
      rest : cell_of_number u (turned m (value_count u)) ≡ cell_of_number u m
      rest = same_cell u (turned m (value_count u)) m (λ k l. let ne : k ≢ value_count u = omega arith in
          turned_other m (value_count u) k ne)

      go : (b : Bool) → has_bit m (value_count u) ≡ b
          → (not b || not (p (cell_of_number (Some v ∷ u) (turned m (value_count u)))))
          ≡ (is_none (if b then Some v else None) || not (p (None ∷ cell_of_number u m)))
      go false e = refl
      go true e = ap not (ap p (ap₂ (λ b c. (if b then Some v else None) ∷ c) (turned_same m (value_count u)
          ∙ ap not e) rest))

  pub none_smaller-is : (p : Cell A → Bool) (u : Cell A) (m : ℕ) → none_smaller p (cell_of_number u m) ≡ none_less p u m
  none_smaller-is p [] m = refl
  none_smaller-is p (None ∷ u) m =
      smaller_on p (if has_bit m (value_count u) then None else None) (cell_of_number u m)
      ∙ ap₂ (λ x y. x && y)
      (ap (λ f. is_none f || not (p (None ∷ cell_of_number u m))) (none_kept (has_bit m (value_count u))))
      (none_smaller-is (λ d. p ((if has_bit m (value_count u) then None else None) ∷ d)) u m)
      ∙ sym (lower_bits p None u m)
  none_smaller-is p (Some v ∷ u) m =
      let last : range_with_len 0 (suc (value_count u)) ≡ range_with_len 0 (value_count u) ++ value_count u ∷ []
      = (let e : suc (value_count u) ≡ value_count u + 1 = omega arith in
      ap (range_with_len 0) e ∙ range-more (value_count u)) in
      smaller_on p (if has_bit m (value_count u) then Some v else None) (cell_of_number u m)
      ∙ ap₂ (λ x y. x && y) (sym (own_bit p v u m))
      (none_smaller-is (λ d. p ((if has_bit m (value_count u) then Some v else None) ∷ d)) u m
      ∙ sym (lower_bits p (Some v) u m))
      ∙ and_comm (not (has_bit m (value_count u)) || not (p (cell_of_number (Some v ∷ u) (turned m (value_count u)))))
      (list_all (λ k. not (has_bit m k) || not (p (cell_of_number (Some v ∷ u) (turned m k))))
      (range_with_len 0 (value_count u)))
      ∙ sym (ap (list_all (λ k. not (has_bit m k) || not (p (cell_of_number (Some v ∷ u) (turned m k))))) last
      ∙ list_all-append (λ k. not (has_bit m k) || not (p (cell_of_number (Some v ∷ u) (turned m k))))
      (range_with_len 0 (value_count u)) (value_count u ∷ [])
      ∙ ap (λ b. list_all (λ k. not (has_bit m k) || not (p (cell_of_number (Some v ∷ u) (turned m k))))
      (range_with_len 0 (value_count u)) && b) (and-true _))
