-- The first line of a text.
use Rattle.std.proofs.Common.{◌≡◌, ◌<◌, ◌+◌, ℕ, zero, suc, List, [], ◌∷◌, length, get_or, take, drop, refl, arith, ◌≢◌, add-one}
use Rattle.std.proofs.lemmas.Bool.{eq-eqb, ne_eqb}
use Rattle.text_lines.specs.Lines.{lines_of}

line-suc : (xs : List ℕ) (i : ℕ) → i < length xs → get_or xs i 0 ≡ 10 → ((k : ℕ) → k < i → get_or xs k 0 ≢ 10)
    → lines_of xs ≡ take i xs ∷ lines_of (drop (suc i) xs)
line-suc [] i lt here before = absurd (omega arith)
line-suc (b ∷ bs) zero lt here before = rw (eq-eqb b 10 here) refl
line-suc (b ∷ bs) (suc i) lt here before =
    rw (
      ne_eqb b 10 (before 0 (omega arith)),
      line-suc bs i (omega arith) here (λ k h. before (suc k) (omega arith)),
    ) refl

pub line-at : (xs : List ℕ) (i : ℕ) → i < length xs → get_or xs i 0 ≡ 10 → ((k : ℕ) → k < i → get_or xs k 0 ≢ 10)
    → lines_of xs ≡ take i xs ∷ lines_of (drop (i + 1) xs)
line-at xs i lt here before = rw add-one (line-suc xs i lt here before)

pub line-whole : (xs : List ℕ) → 0 < length xs → ((k : ℕ) → k < length xs → get_or xs k 0 ≢ 10) → lines_of xs ≡ xs ∷ []
line-whole [] lt none = absurd (omega arith)
line-whole (b ∷ []) lt none = rw (ne_eqb b 10 (none 0 (omega arith))) refl
line-whole (b ∷ c ∷ bs) lt none
    = rw (
      ne_eqb b 10 (none 0 (omega arith)),
      line-whole (c ∷ bs) (omega arith) (λ k h. none (suc k) (omega arith)),
    ) refl
