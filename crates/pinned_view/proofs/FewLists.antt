-- How many lists of images there are where they are settled.
use Rattle.std.proofs.Common.{◌≡◌, ℕ, suc, ◌+◌, ◌*◌, ◌^◌, ◌<◌, ◌≤◌, true, false, List, [], ◌∷◌, ◌++◌, length}
use Rattle.std.proofs.Common.{◌⊎◌, inl, inr, arith, length-append}
use Rattle.std.specs.FinMap as finmap
use Rattle.std.specs.List.{AllByRecursion}
use Rattle.std.proofs.Math.Nat.{mul-le-mul_left, mul-suc, pow-le-pow_right, pow-suc}
use Rattle.std.proofs.lemmas.Bool.{cases_Bool, cases_lt}
use Rattle.qc_arena.specs.Map.{ImageMap}
use Rattle.pinned_view.specs.Pins.{AreSettledFrom, kept_after, least_place, reads_from}
use Rattle.pinned_view.specs.declared.pins.Pin.{Pin}
use Rattle.pinned_view.proofs.Places.{count_after, count_first, count_later, count_read}

-- each list has so few images
abbrev AreShort : ℕ → List ImageMap → Type 0
AreShort bits kept = AllByRecursion (λ (images : ImageMap). finmap.len images + 2 < 2 ^ (bits + 1)) kept

below : (k n bits : ℕ) → 2 ^ k ≤ n → n < 2 ^ (bits + 1) → k ≤ bits
below k n bits low high = elim (cases_lt bits k) [
  | inl lt ↦ let more = pow-le-pow_right {n = 2} (omega arith) {i = bits + 1} {j = k} (omega (arith, lt)) in
      absurd (omega (arith, low, high, more))
  | inr le ↦ le
]

-- so many lists from a place on: those that double, and so many for each pin that reads from behind
record AreFew (bits place : ℕ) (first : ImageMap) (back : List ImageMap) (pins : List Pin) : Type 0 where
  doubled : ℕ
  large : 2 ^ doubled ≤ finmap.len first + 2
  few : suc (length back) ≤ doubled + bits * count_after place pins

few_from : (bits place : ℕ) (first : ImageMap) (back : List ImageMap) (pins : List Pin) → AreShort bits (first ∷ back)
    → AreSettledFrom place (first ∷ back) pins → AreFew bits place first back pins
few_from bits place first [] pins short is = record { doubled = 1; large = omega arith; few = omega arith }
few_from bits place first (next ∷ back) pins short is =
    by (few_from bits (suc place) next back pins short.1 is.1) (cases_Bool (reads_from pins (suc place)))
  where
    by : AreFew bits (suc place) next back pins → (reads_from pins (suc place) ≡ true) ⊎ (reads_from pins (suc place) ≡ false)
        → AreFew bits place first (next ∷ back) pins
    by rest (inl read) =
        let more = mul-le-mul_left bits (count_read place pins read) in
        let k = below rest.doubled (finmap.len next + 2) bits rest.large short.1.0 in
        let at : bits * suc (count_after (suc place) pins) ≡ bits * count_after (suc place) pins + bits
        = mul-suc bits (count_after (suc place) pins) in
        record { doubled = 1; large = omega arith; few = omega (arith, rest.few, more, k, at) }
    by rest (inr none) =
        let more = mul-le-mul_left bits (count_later place pins) in
        let twice : 2 ^ suc rest.doubled ≡ 2 ^ rest.doubled * 2 = pow-suc 2 rest.doubled in
        record {
          doubled = suc rest.doubled;
          large = omega (arith, rest.large, twice, is.0 none);
          few = omega (arith, rest.few, more);
        }

few_settled : (bits : ℕ) (kept : List ImageMap) (pins : List Pin) → AreShort bits kept → AreSettledFrom 0 kept pins
    → least_place (length kept) pins ≡ 0 → length kept ≤ bits * length pins
few_settled bits [] pins short is least = omega arith
few_settled bits (first ∷ back) pins short is least =
    let f = few_from bits 0 first back pins short is in
    let k = below f.doubled (finmap.len first + 2) bits f.large short.0 in
    let more = mul-le-mul_left bits (count_first (length (first ∷ back)) pins (omega arith) least) in
    let at : bits * suc (count_after 0 pins) ≡ bits * count_after 0 pins + bits = mul-suc bits (count_after 0 pins) in
    omega (arith, f.few, k, more, at)

front_short : (bits : ℕ) (kept : List ImageMap) (images : ImageMap) → AreShort bits (kept ++ images ∷ []) → AreShort bits kept
front_short bits [] images short = tt
front_short bits (i ∷ kept) images short = (short.0, front_short bits kept images short.1)

-- after a change over settled lists
pub few_after : (pins : List Pin) (kept : List ImageMap) (images : ImageMap) (bits : ℕ) → AreSettledFrom 0 kept pins
    → least_place (length kept) pins ≡ 0 → AreShort bits (kept_after pins kept images)
    → length (kept_after pins kept images) ≤ bits * length pins + 1
few_after [] kept images bits is least short = omega (arith, least)
few_after (pin ∷ pins) kept images bits is least short =
    let few = few_settled bits kept (pin ∷ pins) (front_short bits kept images short) is least in
    omega (arith, few, length-append kept (images ∷ []))
