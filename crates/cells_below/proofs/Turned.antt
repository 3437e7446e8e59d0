-- A number with one bit the other way.
use Rattle.std.proofs.Common.{◌≡◌, ◌≢◌, ℕ, zero, suc, ◌+◌, ◌%◌, ◌^◌, ◌<◌, ◌≤◌, max, Bool, true, false, not, nat_eq, eqb-true, eq-eqb, refl}
use Rattle.std.proofs.Common.{sym, ap, ◌∙◌, subst, arith, true≢false}
use Rattle.std.specs.Int.{bit_at}
use Rattle.std.specs.Int.Bits.{bit_xor, xor_assoc, xor_self, xor_zero_r}
use Rattle.std.specs.Int.RustNames.{bit_or}
use Rattle.std.proofs.Math.Pow.{pow-lt}
use Rattle.std.proofs.lemmas.Nat.{xor_lt, le_or_l}
use Rattle.std.proofs.lemmas.Nat.Bits.{bit_at_xor, bit_at_or, bit_at-lt, bit_at-pow_same, bit_at-pow_other, same_from_bits}
use Rattle.cells_below.specs.Numbers.{has_bit, turned}

stays : (b : ℕ) → b < 2 → (b + 0) % 2 ≡ b
stays (suc (suc b)) h = absurd (omega arith)
stays _ h = refl

flips : (b : ℕ) → b < 2 → nat_eq ((b + 1) % 2) 1 ≡ not (nat_eq b 1)
flips (suc (suc b)) h = absurd (omega arith)
flips _ h = refl

pub turned_other : (m k j : ℕ) → j ≢ k → has_bit (turned m k) j ≡ has_bit m j
turned_other m k j ne =
    ap (λ b. nat_eq b 1) (bit_at_xor m (2 ^ k) j ∙ ap (λ b. (bit_at m j + b) % 2) (bit_at-pow_other k j ne)
    ∙ stays (bit_at m j) (bit_at-lt m j))

pub turned_same : (m k : ℕ) → has_bit (turned m k) k ≡ not (has_bit m k)
turned_same m k = ap (λ b. nat_eq b 1) (bit_at_xor m (2 ^ k) k ∙ ap (λ b. (bit_at m k + b) % 2) (bit_at-pow_same k))
    ∙ flips (bit_at m k) (bit_at-lt m k)

pub turned-lt : (d m k : ℕ) → m < 2 ^ d → k < d → turned m k < 2 ^ d
turned-lt d m k h l = xor_lt d m (2 ^ k) h (pow-lt l)

zero_of : (b : ℕ) → b < 2 → nat_eq b 1 ≡ false → b ≡ 0
zero_of zero h e = refl
zero_of (suc zero) h e = absurd (true≢false e)
zero_of (suc (suc b)) h e = absurd (omega arith)

kept_of : (b : ℕ) → b < 2 → (b + 0) % 2 ≡ max b 0
kept_of (suc (suc b)) h = absurd (omega arith)
kept_of _ h = refl

-- where the number misses the bit, it is put in
turned_is_or : (m k : ℕ) → has_bit m k ≡ false → turned m k ≡ bit_or m (2 ^ k)
turned_is_or m k e = same_from_bits _ _ (λ i. bit_at_xor m (2 ^ k) i ∙ go i (nat_eq i k) refl
    ∙ sym (bit_at_or m (2 ^ k) i))
  where
    none : bit_at m k ≡ 0
    none = zero_of (bit_at m k) (bit_at-lt m k) e

    at_k : (bit_at m k + bit_at (2 ^ k) k) % 2 ≡ max (bit_at m k) (bit_at (2 ^ k) k)
    at_k = ap (λ b. (bit_at m k + b) % 2) (bit_at-pow_same k) ∙ ap (λ b. (b + 1) % 2) none
        ∙ sym (ap (λ b. max (bit_at m k) b) (bit_at-pow_same k) ∙ ap (λ b. max b 1) none)

    go : (i : ℕ) (t : Bool) → nat_eq i k ≡ t → (bit_at m i + bit_at (2 ^ k) i) % 2 ≡ max (bit_at m i) (bit_at (2 ^ k) i)
    go i true q = subst (λ j. (bit_at m j + bit_at (2 ^ k) j) % 2 ≡ max (bit_at m j) (bit_at (2 ^ k) j))
        (sym (eqb-true i k q)) at_k
    go i false q =
        let ne : i ≢ k = λ s. true≢false (sym (eq-eqb i k s) ∙ q) in
        ap (λ b. (bit_at m i + b) % 2) (bit_at-pow_other k i ne) ∙ kept_of (bit_at m i) (bit_at-lt m i)
        ∙ sym (ap (λ b. max (bit_at m i) b) (bit_at-pow_other k i ne))

-- a bit more makes a greater number
turned_above : (m k : ℕ) → has_bit m k ≡ false → m < turned m k
turned_above m k e =
    let le : m ≤ turned m k = subst (λ n. m ≤ n) (sym (turned_is_or m k e)) (le_or_l m (2 ^ k)) in
    let ne : m ≢ turned m k = λ s. true≢false (sym (turned_same m k ∙ ap not e) ∙ sym (ap (λ n. has_bit n k) s) ∙ e) in
    omega arith

turned_back : (m k : ℕ) → turned (turned m k) k ≡ m
turned_back m k = xor_assoc m (2 ^ k) (2 ^ k) ∙ ap (bit_xor m) (xor_self (2 ^ k)) ∙ xor_zero_r m

-- a bit less makes a smaller number
pub turned_below : (m k : ℕ) → has_bit m k ≡ true → turned m k < m
turned_below m k e = subst (λ n. turned m k < n) (turned_back m k)
    (turned_above (turned m k) k (turned_same m k ∙ ap not e))
