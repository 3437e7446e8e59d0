-- Numbers whose bits are set.
use Rattle.std.proofs.Common.{Bool, List, cond, false, get_or, length, nat_eq, set, true, ℕ, ◌%◌, ◌*◌, ◌<◌, ◌^◌, ◌&&◌, ◌≡◌, ◌∙◌}
use Rattle.std.proofs.Common.{ap, ap₂, arith, eq-eqb, inl, inr, ne_eqb, refl, sym, w64}
use Rattle.std.proofs.lemmas.Bool.{cases_eq, cond-false, cond-true}
use Rattle.std.proofs.lemmas.List.{get_or-set_same, get_or-set_other, get_or_read, length-set}
use Rattle.std.proofs.lemmas.Nat.Bits.{bit_at_set_same, bit_at_set_other}
use Rattle.std.specs.Prelude.{bit_or}
use Rattle.std.specs.Int.{bit_at}
use Rattle.std.proofs.Common.{Option, None, Some, ◌++◌, true≢false}
use Rattle.std.specs.Map.{lookup}
use Rattle.std.specs.Option.{IfSome, IsSome}
use Rattle.std.proofs.lemmas.List.{get_or-map, length-map}
use Rattle.qc_arena.specs.Entries.{all_new}
use Rattle.qc_arena.specs.Index.{IsIndexOf}
use Rattle.qc_arena.specs.Map.{Known}
use Rattle.qc_arena.specs.declared.number_index.NumberIndex.{NumberIndex}
use Rattle.qc_arena.proofs.Looked.{look_after, none_at, number_missed}
use Rattle.qc_arena.specs.Marks.{is_marked, place_in, share_bit}

and-false : (b : Bool) → b && false ≡ false
and-false true = refl
and-false false = refl

-- the words after the bit of a number is set
module _ (words : List ℕ) (number at value : ℕ) (place : at ≡ place_in (length words) number) (within : at < length words)
    (is : value ≡ get_or words at value) where
  abbrev with_bit : ℕ
  with_bit = bit_or value (1 * 2 ^ (number % 64) % 2 ^ 64)

  abbrev more : List ℕ
  more = set words at with_bit

  by_bit : (q bit : ℕ) → bit_at (get_or more (place_in (length words) q) 0) (q % 64) ≡ bit
      → is_marked more q ≡ nat_eq bit 1
  by_bit q bit e = ap (λ k. nat_eq (bit_at (get_or more (place_in k q) 0) (q % 64)) 1) (length-set words at with_bit)
      ∙ ap (λ b. nat_eq b 1) e

  in_word : (q : ℕ) → place_in (length words) number ≡ place_in (length words) q
      → get_or more (place_in (length words) q) 0 ≡ with_bit
  in_word q same = ap (λ j. get_or more j 0) (sym (place ∙ same)) ∙ get_or-set_same words at with_bit 0 within

  pub marked_more : (q : ℕ) → is_marked more q ≡ cond (share_bit (length words) number q) true (is_marked words q)
  marked_more q = elim (cases_eq (place_in (length words) number) (place_in (length words) q)) [
    | inl word ↦ elim (cases_eq (number % 64) (q % 64)) [
      | inl bit ↦ by_bit q 1 (ap (λ x. bit_at x (q % 64)) (in_word q word) ∙ ap (λ i. bit_at with_bit i) (sym bit)
          ∙ bit_at_set_same w64 value (number % 64) (omega arith))
          ∙ sym (cond-true _ _ _ (ap₂ (λ a b. a && b) (eq-eqb _ _ word) (eq-eqb _ _ bit)))
      | inr bit ↦ by_bit q _ (ap (λ x. bit_at x (q % 64)) (in_word q word)
          ∙ bit_at_set_other w64 value (number % 64) (omega arith) (q % 64) (λ e. bit (sym e))
          ∙ ap (λ x. bit_at x (q % 64)) (get_or_read words at value within is 0
          ∙ ap (λ j. get_or words j 0) (place ∙ word)))
          ∙ sym (cond-false _ _ _ (ap (λ b. nat_eq (place_in (length words) number) (place_in (length words) q) && b)
          (ne_eqb _ _ bit) ∙ and-false _))
    ]
    | inr word ↦ by_bit q _ (ap (λ x. bit_at x (q % 64)) (get_or-set_other words at (place_in (length words) q) with_bit 0
        (λ e. word (sym (e ∙ place)))))
        ∙ sym (cond-false _ _ _ (ap (λ b. b && nat_eq (number % 64) (q % 64)) (ne_eqb _ _ word)))
  ]

abbrev new : ℕ → ℕ × Option Known
new number = (number, None)

-- a number without its bit has no entry, and isn't that of a new node
pub none_marked : (index : Option NumberIndex) (node : ℕ) (changed : List (ℕ × Option Known)) (added : List ℕ)
    → IfSome index (λ i. IsIndexOf i changed added)
    → IsSome index × IfSome index (λ i. is_marked i.marks.words.items node ≡ false)
    → lookup (nat_eq node) (changed ++ all_new added) ≡ None
none_marked None node changed added is unmarked = absurd (true≢false (sym unmarked.0))
none_marked (Some index) node changed added is unmarked =
    let words = index.marks.words.items in
    look_after node changed (all_new added) (number_missed node changed (λ i d l same.
    true≢false (sym (is.changed_marked i d (rw is.numbers l)) ∙ ap (is_marked words) (rw is.numbers same) ∙ unmarked.1)))
    ∙ none_at node (all_new added) (λ i d l same.
    let within : i < length added = omega (arith, l, length-map added new) in
    true≢false (sym (is.added_marked i 0 within)
    ∙ ap (is_marked words) (sym (ap (λ e. e.0) (get_or-map new added i 0 d within)) ∙ same) ∙ unmarked.1))
