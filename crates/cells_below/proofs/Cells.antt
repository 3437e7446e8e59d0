-- The cells of numbers are the cells that generalize a cell, in order.
use Rattle.std.proofs.lemmas.Nat.{pow_pos}
use Rattle.std.proofs.Common.{◌≡◌, ℕ, zero, suc, ◌+◌, ◌-◌, ◌*◌, ◌^◌, ◌<◌, ◌≤◌, pow-suc, Bool, true, false, Option, Some, None}
use Rattle.std.proofs.Common.{[], ◌∷◌, ◌++◌, map, drop, get_or, length, set, refl, sym, ap, ap₂, ◌∙◌, arith, true≢false}
use Rattle.std.specs.Prelude.{if◌then◌else◌, nat_eq}
use Rattle.std.proofs.Math.Seq.{drop-cons}
use Rattle.std.proofs.lemmas.Bool.{and_from}
use Rattle.std.specs.Int.{bit_at}
use Rattle.std.specs.List.{range_with_len}
use Rattle.std.proofs.lemmas.Nat.Bits.{bit_at_above, bit_at_cat_low, bit_at_cat_high, bit_at_lowest}
use Rattle.std.proofs.lemmas.Simd.{map-map}
use Rattle.std.proofs.lemmas.List.{map-append}
use Rattle.cube_defs.specs.Cell.{Cell, leq, entry_leq}
use Rattle.cube_laws.proofs.CallerLemmas.{IsEquality, leq_refl, map_same}
use Rattle.cell_core.specs.Entry.{value_in}
use Rattle.cell_core.specs.declared.cell.Entry.{Entry}
use Rattle.cell_core.specs.declared.cell.Entry.TheVariants.{Any, Is}
use Rattle.cube_laws.specs.Parts.{value_count}
use Rattle.tree_laws.specs.GeneralizingCells.{below}
use Rattle.cells_below.specs.Numbers.{cell_of_number, has_bit}
use Rattle.cells_below.proofs.Ranges.{range-append, range-shift, map_range}

pub none_kept : {A : Type 0} (b : Bool) → ◌≡◌ {A = Option A} (if b then None else None) None
none_kept true = refl
none_kept false = refl

pub values-le : {A : Type 0} (u : Cell A) → value_count u ≤ length u
values-le [] = omega arith
values-le (None ∷ u) = let l = values-le u in omega arith
values-le (Some v ∷ u) = let l = values-le u in omega arith

-- an entry without a value
pub no_value : (e : Entry) → ((x : ℕ) → e ≡ Is x → ⊥) → value_in e ≡ None
no_value Any h = refl
no_value (Is x) h = absurd (h x refl)

-- the values from a dimension on
module _ {A : Type 0} (u : Cell A) (i : ℕ) (l : i < length u) where
  pub counted_any : get_or u i None ≡ None → value_count (drop i u) ≡ value_count (drop (suc i) u)
  counted_any e = ap value_count (drop-cons u i None l ∙ ap (λ x. x ∷ drop (suc i) u) e)

  pub counted_one : (v : A) → get_or u i None ≡ Some v → value_count (drop i u) ≡ suc (value_count (drop (suc i) u))
  counted_one v e = ap value_count (drop-cons u i None l ∙ ap (λ x. x ∷ drop (suc i) u) e)

low_bits : (d m k : ℕ) → k < d → has_bit (2 ^ d + m) k ≡ has_bit m k
low_bits d m k l = let e : 2 ^ d + m ≡ 1 * 2 ^ d + m = omega arith in
    ap (λ b. nat_eq b 1) (ap (λ n. bit_at n k) e ∙ bit_at_cat_low 1 d m k l)

high_bit : (d m : ℕ) → m < 2 ^ d → has_bit (2 ^ d + m) d ≡ true
high_bit d m l =
    let e : 2 ^ d + m ≡ 1 * 2 ^ d + m = omega arith in
    let f : d - d ≡ 0 = omega arith in
    ap (λ b. nat_eq b 1) (ap (λ n. bit_at n d) e ∙ bit_at_cat_high 1 d m d l (omega arith) ∙ ap (bit_at 1) f
    ∙ bit_at_lowest 1)

no_bit : (d m : ℕ) → m < 2 ^ d → has_bit m d ≡ false
no_bit d m l = ap (λ b. nat_eq b 1) (bit_at_above m d d l (omega arith))

module _ {A : Type 0} where
  -- the bits of the values alone count
  pub same_cell : (u : Cell A) (m n : ℕ) → ((k : ℕ) → k < value_count u → has_bit m k ≡ has_bit n k)
      → cell_of_number u m ≡ cell_of_number u n
  same_cell [] m n h = refl
  same_cell (None ∷ u) m n h
      = ap₂ (λ e c. e ∷ c) (none_kept (has_bit m (value_count u)) ∙ sym (none_kept (has_bit n (value_count u))))
      (same_cell u m n h)
  same_cell (Some v ∷ u) m n h
      = ap₂ (λ e c. e ∷ c) (ap (λ b. if b then Some v else None) (h (value_count u) (omega arith)))
      (same_cell u m n (λ k l. h k (omega arith)))

  -- all bits make the cell itself
  pub whole_cell : (u : Cell A) (m : ℕ) → m + 1 ≡ 2 ^ value_count u → cell_of_number u m ≡ u
  whole_cell [] m h = refl
  whole_cell (None ∷ u) m h = ap₂ (λ e c. e ∷ c) (none_kept (has_bit m (value_count u))) (whole_cell u m h)
  whole_cell (Some v ∷ u) m h =
      let rest = m - 2 ^ value_count u in
      let one : 0 < 2 ^ value_count u = pow_pos (value_count u) in
      let twice : m + 1 ≡ 2 ^ value_count u + 2 ^ value_count u = h ∙ omega (arith, pow-suc 2 (value_count u)) in
      let is : m ≡ 2 ^ value_count u + rest = omega (arith, one, twice) in
      let less : rest + 1 ≡ 2 ^ value_count u = omega (arith, one, twice) in
      ap₂ (λ b c. (if b then Some v else None) ∷ c) (ap (λ n. has_bit n (value_count u)) is
      ∙ high_bit (value_count u) rest (omega (arith, less)))
      (same_cell u m rest (λ k l. ap (λ n. has_bit n k) is ∙ low_bits (value_count u) rest k l)
      ∙ whole_cell u rest less)

  low : (v : A) (u : Cell A) → map (cell_of_number (Some v ∷ u)) (range_with_len 0 (2 ^ value_count u))
      ≡ map (λ c. None ∷ c) (map (cell_of_number u) (range_with_len 0 (2 ^ value_count u)))
  low v u =
      map_range (cell_of_number (Some v ∷ u)) (λ m. None ∷ cell_of_number u m) 0 (2 ^ value_count u)
      (λ m l k. ap (λ b. (if b then Some v else None) ∷ cell_of_number u m)
      (no_bit (value_count u) m (omega arith)))
      ∙ sym (map-map (λ c. None ∷ c) (cell_of_number u) (range_with_len 0 (2 ^ value_count u)))

  high : (v : A) (u : Cell A)
      → map (cell_of_number (Some v ∷ u)) (range_with_len (0 + 2 ^ value_count u) (2 ^ value_count u))
      ≡ map (λ c. Some v ∷ c) (map (cell_of_number u) (range_with_len 0 (2 ^ value_count u)))
  high v u =
      let e : 0 + 2 ^ value_count u ≡ 2 ^ value_count u + 0 = omega arith in
      ap (λ a. map (cell_of_number (Some v ∷ u)) (range_with_len a (2 ^ value_count u))) e
      ∙ ap (map (cell_of_number (Some v ∷ u))) (range-shift (2 ^ value_count u) 0 (2 ^ value_count u))
      ∙ map-map (cell_of_number (Some v ∷ u)) (λ m. 2 ^ value_count u + m) (range_with_len 0 (2 ^ value_count u))
      ∙ map_range (λ m. cell_of_number (Some v ∷ u) (2 ^ value_count u + m)) (λ m. Some v ∷ cell_of_number u m) 0
      (2 ^ value_count u)
      (λ m l k. ap₂ (λ b c. (if b then Some v else None) ∷ c) (high_bit (value_count u) m (omega arith))
      (same_cell u (2 ^ value_count u + m) m (λ j q. low_bits (value_count u) m j q)))
      ∙ sym (map-map (λ c. Some v ∷ c) (cell_of_number u) (range_with_len 0 (2 ^ value_count u)))

  -- the cells of all numbers are the cells that generalize u, in their order
  pub cells_below : (u : Cell A) → map (cell_of_number u) (range_with_len 0 (2 ^ value_count u)) ≡ below u
  cells_below [] = refl
  cells_below (None ∷ u) =
      map_same _ (λ m. None ∷ cell_of_number u m) (range_with_len 0 (2 ^ value_count u))
      (λ m. ap (λ e. e ∷ cell_of_number u m) (none_kept (has_bit m (value_count u))))
      ∙ sym (map-map (λ c. None ∷ c) (cell_of_number u) (range_with_len 0 (2 ^ value_count u)))
      ∙ ap (map (λ c. None ∷ c)) (cells_below u)
  cells_below (Some v ∷ u) =
      let twice : 2 ^ suc (value_count u) ≡ 2 ^ value_count u + 2 ^ value_count u
      = omega (arith, pow-suc 2 (value_count u)) in
      ap (λ n. map (cell_of_number (Some v ∷ u)) (range_with_len 0 n)) twice
      ∙ ap (map (cell_of_number (Some v ∷ u))) (range-append 0 (2 ^ value_count u) (2 ^ value_count u))
      ∙ map-append (cell_of_number (Some v ∷ u)) (range_with_len 0 (2 ^ value_count u))
      (range_with_len (0 + 2 ^ value_count u) (2 ^ value_count u))
      ∙ ap₂ (λ xs ys. xs ++ ys) (low v u ∙ ap (map (λ c. None ∷ c)) (cells_below u)) (high v u
      ∙ ap (map (λ c. Some v ∷ c)) (cells_below u))

module _ {A : Type 0} {eq : A → A → Bool} (law : IsEquality eq) where
  entry_below : (b : Bool) (e : Option A) → entry_leq eq (if b then e else None) e ≡ true
  entry_below true (Some v) = law.same v
  entry_below _ e = refl

  -- the cell of a number generalizes the cell, and more bits make a greater cell
  pub cell_below : (u : Cell A) (m : ℕ) → leq eq (cell_of_number u m) u ≡ true
  cell_below [] m = refl
  cell_below (e ∷ u) m = and_from _ _ (entry_below (has_bit m (value_count u)) e) (cell_below u m)

  entry_more : (b d : Bool) (e : Option A) → (b ≡ true → d ≡ true)
      → entry_leq eq (if b then e else None) (if d then e else None) ≡ true
  entry_more true false e h = absurd (true≢false (sym (h refl)))
  entry_more true true (Some v) h = law.same v
  entry_more _ d e h = refl

  pub more_bits : (u : Cell A) (m n : ℕ) → ((k : ℕ) → has_bit m k ≡ true → has_bit n k ≡ true)
      → leq eq (cell_of_number u m) (cell_of_number u n) ≡ true
  more_bits [] m n h = refl
  more_bits (e ∷ u) m n h
      = and_from _ _ (entry_more (has_bit m (value_count u)) (has_bit n (value_count u)) e (h (value_count u)))
      (more_bits u m n h)

  -- the cells without one of the values generalize the cell without it
  pub below_without : (u : Cell A) (m i : ℕ) → i < length u → has_bit m (value_count (drop (suc i) u)) ≡ false
      → leq eq (cell_of_number u m) (set u i None) ≡ true
  below_without [] m i l h = absurd (omega arith)
  below_without (e ∷ u) m zero l h
      = and_from _ _ (ap (λ b. entry_leq eq (if b then e else None) None) h) (cell_below u m)
  below_without (e ∷ u) m (suc i) l h
      = and_from _ _ (entry_below (has_bit m (value_count u)) e) (below_without u m i (omega arith) h)

  pub without_below : (u : Cell A) (i : ℕ) → leq eq (set u i None) u ≡ true
  without_below [] i = refl
  without_below (e ∷ u) zero = and_from _ _ refl (leq_refl law u)
  without_below (e ∷ u) (suc i) = and_from _ _ (entry_below true e) (without_below u i)
