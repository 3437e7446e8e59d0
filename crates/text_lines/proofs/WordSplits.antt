-- The words of a line.
use Rattle.std.proofs.Common.{◌≡◌, ◌<◌, ◌≤◌, ◌∙◌, ℕ, zero, suc, List, [], ◌∷◌, length, get_or, take, drop, refl, sym, arith, ap, ◌≢◌}
use Rattle.std.specs.Prelude.{filter}
use Rattle.std.proofs.Math.Seq.{drop-cons}
use Rattle.std.proofs.lemmas.Bool.{eq-eqb, ne_eqb}
use Rattle.text_lines.specs.Cuts.{cut_at, has_bytes, words_of}

piece-suc : (xs : List ℕ) (i : ℕ) → i < length xs → get_or xs i 0 ≡ 32 → ((k : ℕ) → k < i → get_or xs k 0 ≢ 32)
    → cut_at 32 xs ≡ take i xs ∷ cut_at 32 (drop (suc i) xs)
piece-suc [] i lt here before = absurd (omega arith)
piece-suc (b ∷ bs) zero lt here before = rw (eq-eqb b 32 here) refl
piece-suc (b ∷ bs) (suc i) lt here before =
    rw (
      ne_eqb b 32 (before 0 (omega arith)),
      piece-suc bs i (omega arith) here (λ k h. before (suc k) (omega arith)),
    ) refl

piece-whole : (xs : List ℕ) → ((k : ℕ) → k < length xs → get_or xs k 0 ≢ 32) → cut_at 32 xs ≡ xs ∷ []
piece-whole [] none = refl
piece-whole (b ∷ bs) none
    = rw (ne_eqb b 32 (none 0 (omega arith)), piece-whole bs (λ k h. none (suc k) (omega arith))) refl

-- spaces before the words
pub words-skip : (xs : List ℕ) (i : ℕ) → i ≤ length xs → ((k : ℕ) → k < i → get_or xs k 0 ≡ 32)
    → words_of (drop i xs) ≡ words_of xs
unfolding words_of
words-skip xs zero le spaces = refl
words-skip [] (suc i) le spaces = refl
words-skip (b ∷ bs) (suc i) le spaces
    = rw (eq-eqb b 32 (spaces 0 (omega arith))) (words-skip bs i (omega arith) (λ k h. spaces (suc k) (omega arith)))

-- nothing but spaces
pub words-none : (xs : List ℕ) → ((k : ℕ) → k < length xs → get_or xs k 0 ≡ 32) → words_of [] ≡ words_of xs
unfolding words_of
words-none [] spaces = refl
words-none (b ∷ bs) spaces
    = rw (eq-eqb b 32 (spaces 0 (omega arith))) (words-none bs (λ k h. spaces (suc k) (omega arith)))

pub words-empty : words_of [] ≡ []
unfolding words_of
words-empty = refl

words-space : (b : ℕ) (bs : List ℕ) → b ≡ 32 → words_of (b ∷ bs) ≡ words_of bs
unfolding words_of
words-space b bs e = rw (eq-eqb b 32 e) refl

word-after : (bs : List ℕ) (i : ℕ) → i < length bs → get_or bs i 0 ≡ 32
    → words_of (drop (suc i) bs) ≡ words_of (drop i bs)
word-after bs i h e = sym (ap words_of (drop-cons bs i 0 h) ∙ words-space (get_or bs i 0) (drop (suc i) bs) e)

pub word-at : (xs : List ℕ) (i : ℕ) → i < length xs → get_or xs 0 0 ≢ 32 → get_or xs i 0 ≡ 32
    → ((k : ℕ) → k < i → get_or xs k 0 ≢ 32) → words_of xs ≡ take i xs ∷ words_of (drop i xs)
unfolding words_of
word-at xs zero lt first here before = absurd (first here)
word-at [] (suc i) lt first here before = absurd (omega arith)
word-at (b ∷ bs) (suc i) lt first here before =
    ap (filter has_bytes) (piece-suc (b ∷ bs) (suc i) lt here before)
    ∙ ap (λ (ws : List (List ℕ)). take (suc i) (b ∷ bs) ∷ ws) (word-after bs i (omega arith) here)

pub word-whole : (xs : List ℕ) → 0 < length xs → ((k : ℕ) → k < length xs → get_or xs k 0 ≢ 32)
    → words_of xs ≡ xs ∷ words_of []
unfolding words_of
word-whole [] lt none = absurd (omega arith)
word-whole (b ∷ bs) lt none = ap (filter has_bytes) (piece-whole (b ∷ bs) none)
