-- Cells of two numbers whose higher bits agree.
use Rattle.std.proofs.Common.{◌≡◌, ℕ, zero, suc, ◌+◌, ◌-◌, ◌/◌, ◌%◌, ◌^◌, ◌<◌, ◌≤◌, Some, None, [], ◌∷◌, drop, get_or}
use Rattle.std.proofs.Common.{if◌then◌else◌, length, refl, sym, ap, ap₂, ◌∙◌, nat_eq, pow-add, arith}
use Rattle.std.proofs.Math.Nat.{div-div-eq-div-mul}
use Rattle.cube_defs.specs.Cell.{Cell}
use Rattle.cube_laws.specs.Parts.{value_count}
use Rattle.cells_below.specs.Numbers.{cell_of_number, has_bit}

bits_above : (m k j : ℕ) → m / 2 ^ (k + j) ≡ m / 2 ^ k / 2 ^ j
bits_above m k j = ap (λ n. m / n) (pow-add 2 k j) ∙ sym (div-div-eq-div-mul m (2 ^ k) (2 ^ j))

same_above : (m n k i : ℕ) → m / 2 ^ k ≡ n / 2 ^ k → k ≤ i → has_bit m i ≡ has_bit n i
same_above m n k i same l =
    let j = i - k in
    let sum : i ≡ k + j = omega (arith, l) in
    ap (has_bit m) sum
    ∙ ap (λ x. nat_eq (x % 2) 1) (bits_above m k j ∙ ap (λ x. x / 2 ^ j) same ∙ sym (bits_above n k j))
    ∙ ap (has_bit n) (sym sum)

fewer_values : (u : Cell ℕ) (i : ℕ) → value_count (drop i u) ≤ value_count u
fewer_values u zero = omega arith
fewer_values [] (suc i) = omega arith
fewer_values (None ∷ u) (suc i) = fewer_values u i
fewer_values (Some v ∷ u) (suc i) = let l = fewer_values u i in omega (arith, l)

-- c is u's cell of one number before dimension i, and that of another one from there on. The numbers' bits for the values
-- before that dimension agree
pub turned_cell : (m n k : ℕ) → m / 2 ^ k ≡ n / 2 ^ k → (u c : Cell ℕ) (i : ℕ) → k ≡ value_count (drop i u)
    → length c ≡ length u → ((j : ℕ) → j < i → get_or c j None ≡ get_or (cell_of_number u m) j None)
    → drop i c ≡ cell_of_number (drop i u) n → c ≡ cell_of_number u n
turned_cell m n k same u c zero at long before after = after
turned_cell m n k same [] [] (suc i) at long before after = refl
turned_cell m n k same [] (x ∷ c) (suc i) at long before after = absurd (omega (arith, long))
turned_cell m n k same (e ∷ u) [] (suc i) at long before after = absurd (omega (arith, long))
turned_cell m n k same (e ∷ u) (x ∷ c) (suc i) at long before after =
    ap₂ (λ a d. a ∷ d)
    (before 0 (omega arith)
    ∙ ap (λ b. if b then e else None) (same_above m n k (value_count u) same (omega (arith, at, fewer_values u i))))
    (turned_cell m n k same u c i at (omega (arith, long)) (λ j l. before (suc j) (omega (arith, l))) after)
