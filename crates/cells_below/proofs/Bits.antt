-- Marks as the bits of words.
use Rattle.std.proofs.Common.{◌≡◌, ◌≢◌, ℕ, suc, ◌+◌, ◌*◌, ◌/◌, ◌%◌, ◌^◌, ◌<◌, ◌≤◌, Bool, true, false, nat_eq, eqb-true, eq-eqb, List}
use Rattle.std.proofs.Common.{map, length, get_or, set, replicate, ◌⊎◌, inl, inr, refl, sym, ap, ◌∙◌, subst, arith, true≢false}
use Rattle.std.specs.Int.Bits.{bit_and}
use Rattle.std.specs.Int.RustNames.{bit_or}
use Rattle.std.specs.List.{range_with_len}
use Rattle.std.proofs.lemmas.Bool.{cases_lt}
use Rattle.std.proofs.Math.ListN.{get_or-eq_default}
use Rattle.std.proofs.lemmas.List.{get_or-set_other, get_or-set_same, length-set}
use Rattle.std.proofs.lemmas.List.FromFn.{fill_by_all, get_or-map-range_with_len, length-map-range_with_len}
use Rattle.std.proofs.lemmas.Nat.Bits.{bit_at-zero, bit_at_set_other, bit_at_set_same, shr_and_one}
use mir.Syntax.{w64}
use Rattle.cells_below.specs.Marks.{bit_in, bits_of, is_marked}
use Rattle.cells_below.specs.Numbers.{has_bit}

pub length-bits : (words : List ℕ) → length (bits_of words) ≡ 64 * length words
length-bits words = length-map-range_with_len (bit_in words) 0 (64 * length words)

pub word_within : (words : List ℕ) (m : ℕ) → m < length (bits_of words) → m / 64 < length words
word_within words m h = omega (arith, length-bits words)

-- a mark is its bit
pub mark_is : (words : List ℕ) (m : ℕ) → m < length (bits_of words) → is_marked (bits_of words) m ≡ bit_in words m
mark_is words m h = get_or-map-range_with_len (bit_in words) 0 (64 * length words) m m false
    (omega (arith, length-bits words)) (omega arith)

pub mark_read : (words : List ℕ) (m w : ℕ) → m < length (bits_of words) → w ≡ get_or words (m / 64) 0
    → nat_eq (bit_and (w / 2 ^ (m % 64)) 1) 1 ≡ is_marked (bits_of words) m
mark_read words m w h e = ap (λ b. nat_eq b 1) (shr_and_one w (m % 64)) ∙ ap (λ v. has_bit v (m % 64)) e
    ∙ sym (mark_is words m h)

-- a bit is set
module _ (words : List ℕ) (m w : ℕ) (h : m < length (bits_of words)) (is : w ≡ get_or words (m / 64) 0) where
  abbrev put : ℕ
  put = bit_or w (1 * 2 ^ (m % 64) % 2 ^ 64)

  in_word : (k : ℕ) (b : Bool) → nat_eq (k / 64) (m / 64) ≡ b → k ≢ m
      → bit_in words k ≡ bit_in (set words (m / 64) put) k
  in_word k true e ne =
      let same : k / 64 ≡ m / 64 = eqb-true (k / 64) (m / 64) e in
      let other : k % 64 ≢ m % 64 = λ s. ne (omega arith) in
      ap (λ i. has_bit (get_or words i 0) (k % 64)) same
      ∙ ap (λ v. has_bit v (k % 64)) (sym is)
      ∙ sym (ap (λ b. nat_eq b 1) (bit_at_set_other w64 w (m % 64) (omega arith) (k % 64) other))
      ∙ sym (ap (λ v. has_bit v (k % 64)) (ap (λ i. get_or (set words (m / 64) put) i 0) same
      ∙ get_or-set_same words (m / 64) put 0 (word_within words m h)))
  in_word k false e ne =
      let other : k / 64 ≢ m / 64 = λ s. true≢false (sym (eq-eqb (k / 64) (m / 64) s) ∙ e) in
      sym (ap (λ v. has_bit v (k % 64)) (get_or-set_other words (m / 64) (k / 64) put 0 other))

  at_bit : true ≡ bit_in (set words (m / 64) put) m
  at_bit = sym (ap (λ v. has_bit v (m % 64)) (get_or-set_same words (m / 64) put 0 (word_within words m h))
      ∙ ap (λ b. nat_eq b 1) (bit_at_set_same w64 w (m % 64) (omega arith)))

  each : (k : ℕ) → k < 64 * length words
      → get_or (set (bits_of words) m true) k false ≡ bit_in (set words (m / 64) put) k
  each k l = go (nat_eq k m) refl
    where
      go : (b : Bool) → nat_eq k m ≡ b → get_or (set (bits_of words) m true) k false ≡ bit_in (set words (m / 64) put) k
      go true e = subst (λ j. get_or (set (bits_of words) m true) j false ≡ bit_in (set words (m / 64) put) j)
          (sym (eqb-true k m e)) (get_or-set_same (bits_of words) m true false h ∙ at_bit)
      go false e =
          let ne : k ≢ m = λ s. true≢false (sym (eq-eqb k m s) ∙ e) in
          get_or-set_other (bits_of words) m k true false ne ∙ mark_is words k (omega (arith, length-bits words))
          ∙ in_word k (nat_eq (k / 64) (m / 64)) refl ne

  pub mark_set : bits_of (set words (m / 64) put) ≡ set (bits_of words) m true
  mark_set =
      ap (λ n. map (bit_in (set words (m / 64) put)) (range_with_len 0 (64 * n))) (length-set words (m / 64) put)
      ∙ sym (fill_by_all (bit_in (set words (m / 64) put)) (set (bits_of words) m true) (64 * length words) false
      (length-set (bits_of words) m true ∙ length-bits words) each)

-- words without bits
zeros : (n i : ℕ) → ◌≡◌ {A = ℕ} (get_or (replicate n 0) i 0) 0
zeros (suc n) (suc i) = zeros n i
zeros _ i = refl

pub none_marked : (words : List ℕ) (n m : ℕ) → words ≡ replicate n 0 → is_marked (bits_of words) m ≡ false
none_marked words n m e = go (cases_lt m (length (bits_of words)))
  where
    go : (m < length (bits_of words)) ⊎ (length (bits_of words) ≤ m) → is_marked (bits_of words) m ≡ false
    go (inl l) =
        mark_is words m l ∙ ap (λ ws. has_bit (get_or ws (m / 64) 0) (m % 64)) e
        ∙ ap (λ v. has_bit v (m % 64)) (zeros n (m / 64)) ∙ ap (λ b. nat_eq b 1) (bit_at-zero (m % 64))
    go (inr g) = get_or-eq_default (bits_of words) false g

pub room_for : (words : List ℕ) (count : ℕ) → length words ≡ count / 64 + 1 → count ≤ length (bits_of words)
room_for words count e = omega (arith, length-bits words)
