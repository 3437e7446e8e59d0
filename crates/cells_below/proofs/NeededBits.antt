-- A value is needed where the cell without it alone has another closure.
use Rattle.std.proofs.Common.{◌≡◌, ◌≢◌, ℕ, zero, suc, ◌-◌, ◌<◌, Bool, true, false, max, nat_eq, eqb-true, eq-eqb}
use Rattle.std.proofs.Common.{if◌then◌else◌, Some, None, drop, get_or, length, set, refl, sym, ap, subst, ◌∙◌, arith}
use Rattle.std.proofs.Common.{true≢false}
use Rattle.std.specs.Int.{bit_at}
use Rattle.std.specs.Int.Bits.{bit_or}
use Rattle.std.proofs.lemmas.Nat.Bits.{bit_at-lt, bit_at-zero, bit_at_or, same_from_bits}
use Rattle.cube_defs.specs.Cell.{Cell}
use Rattle.cube_laws.proofs.CallerLemmas.{option_eq-is, code_equality}
use Rattle.cube_laws.specs.Parts.{value_count}
use Rattle.tree_search.specs.Found.{TreeRows, closure_in}
use Rattle.cells_below.specs.Closed.{AreNeeded, closes, has_closure_in}
use Rattle.cells_below.specs.Numbers.{cell_of_number, has_all, has_bit, turned}
use Rattle.cells_below.proofs.Between.{between, closed}
use Rattle.cells_below.proofs.Cells.{below_without, counted_one, without_below}
use Rattle.cells_below.proofs.Turned.{turned_other}

none_bit : (k : ℕ) → has_bit 0 k ≡ false
none_bit k = ap (λ b. nat_eq b 1) (bit_at-zero k)

-- where each bit of a number is one of another, the other has all
bits_kept : (a b : ℕ) → a < 2 → b < 2 → (nat_eq b 1 ≡ true → nat_eq a 1 ≡ true) → max a b ≡ a
bits_kept zero (suc zero) l q h = absurd (true≢false (sym (h refl)))
bits_kept (suc (suc a)) b l q h = absurd (omega arith)
bits_kept a (suc (suc b)) l q h = absurd (omega arith)
bits_kept _ _ l q h = refl

all_bits : (m bits : ℕ) → ((k : ℕ) → has_bit bits k ≡ true → has_bit m k ≡ true) → has_all m bits ≡ true
all_bits m bits h = eq-eqb _ _ (same_from_bits (bit_or m bits) m (λ k. bit_at_or m bits k
    ∙ bits_kept (bit_at m k) (bit_at bits k) (bit_at-lt m k) (bit_at-lt bits k) (h k)))

module _ (source : TreeRows) (u : Cell ℕ) where
  pub none_needed : AreNeeded source u 0
  none_needed k m e l = absurd (true≢false (sym e ∙ none_bit k))

  -- a number without a needed bit
  pub lacking : (needed m : ℕ) → AreNeeded source u needed → has_all m needed ≡ false → closes source u m ≡ false
  lacking needed m are e = go (closes source u m) refl
    where
      has : closes source u m ≡ true → (k : ℕ) (b : Bool) → has_bit m k ≡ b → has_bit needed k ≡ true → b ≡ true
      has c k true q n = refl
      has c k false q n = absurd (true≢false (sym c ∙ are k m n q))

      go : (b : Bool) → closes source u m ≡ b → b ≡ false
      go false c = refl
      go true c = absurd (true≢false (sym (all_bits m needed (λ k. has c k (has_bit m k) refl)) ∙ e))

  module _ (i k : ℕ) (within : i < length u) (at : k ≡ value_count (drop (suc i) u))
      (opens : has_closure_in source u (set u i None) ≡ false) where
    opens_below : (m : ℕ) → has_bit m k ≡ false → closes source u m ≡ false
    opens_below m l = go (closes source u m) refl
      where
        go : (b : Bool) → closes source u m ≡ b → b ≡ false
        go false e = refl
        go true e =
            let more : has_closure_in source u (set u i None) ≡ true =
            (option_eq-is code_equality (closure_in source (set u i None)) u).1
            (between code_equality source.rows (cell_of_number u m) (set u i None) u
            (below_without code_equality u m i within (ap (has_bit m) (sym at) ∙ l))
            (without_below code_equality u i) (closed source u (cell_of_number u m) e)) in
            absurd (true≢false (sym more ∙ opens))

    needed_more : (needed : ℕ) → AreNeeded source u needed → AreNeeded source u (turned needed k)
    needed_more needed are j m e l = go (nat_eq j k) refl
      where
        go : (b : Bool) → nat_eq j k ≡ b → closes source u m ≡ false
        go true q = opens_below m (ap (has_bit m) (sym (eqb-true j k q)) ∙ l)
        go false q = let ne : j ≢ k = λ s. true≢false (sym (eq-eqb j k s) ∙ q) in
            are j m (sym (turned_other needed k j ne) ∙ e) l

  -- so many values stand from dimension i on
  pub needed_if : (i left v : ℕ) → i < length u → left ≡ value_count (drop i u) → get_or u i None ≡ Some v
      → (needed new : ℕ) (b : Bool) → new ≡ (if b then needed else turned needed (left - 1))
      → (b ≡ false → has_closure_in source u (set u i None) ≡ false) → AreNeeded source u needed → AreNeeded source u new
  needed_if i left v within count is needed new true e opens are = subst (AreNeeded source u) (sym e) are
  needed_if i left v within count is needed new false e opens are =
      subst (AreNeeded source u) (sym e)
      (needed_more i (left - 1) within (omega (arith, count, counted_one u i within v is)) (opens refl) needed are)
