-- A line that begins with a word and the space that ends it has that command word.
use Rattle.std.proofs.Common.{◌≡◌, ◌==◌, ◌+◌, ◌&&◌, ◌||◌, ◌++◌, ◌∷◌, [], ℕ, suc, Bool, true, false, not, List, refl, arith}
use Rattle.std.proofs.Common.{codes, nat_eq, true≢false}
use Rattle.std.proofs.lemmas.Bool.Decides.{nat_tests}
use Rattle.std.specs.List.{list_any, prefix_len, starts_with}
use Rattle.std.specs.Str.{bytes_eq}
use Rattle.query_script.specs.Lines.{is_space, word_of}
use Rattle.qc_session.specs.Lines.{has_file_word}

one-more : (n : ℕ) → 1 + n ≡ suc n
one-more n = omega arith

turned : (a b : ℕ) → (a == b) ≡ (b == a)
turned a b = by (a == b) refl (b == a) refl
  where
    by : (s : Bool) → (a == b) ≡ s → (t : Bool) → (b == a) ≡ t → s ≡ t
    by true e true f = refl
    by true e false f = grind (arith, nat_tests, e, f)
    by false e true f = grind (arith, nat_tests, e, f)
    by false e false f = refl

regroup : (a b s : Bool) → (a && (b && s)) ≡ ((a && b) && s)
regroup true b s = refl
regroup false b s = refl

-- a word without a space
starts-word : (word line : List ℕ) → list_any is_space word ≡ false
    → starts_with nat_eq line (word ++ 32 ∷ []) ≡ (bytes_eq (word_of line) word && list_any is_space line)
starts-word [] [] h = refl
starts-word [] (b ∷ bs) h = by (b == 32) refl
  where
    by : (s : Bool) → (b == 32) ≡ s
        → starts_with nat_eq (b ∷ bs) (32 ∷ []) ≡ (bytes_eq (word_of (b ∷ bs)) [] && list_any is_space (b ∷ bs))
    by true e = rw (turned 32 b, e) refl
    by false e = rw (turned 32 b, e, one-more (prefix_len (λ x. not (is_space x)) bs)) refl
starts-word (p ∷ ps) [] h = refl
starts-word (p ∷ ps) (b ∷ bs) h = by (b == 32) refl (p == 32) refl (λ rest. starts-word ps bs rest)
  where
    by : (s : Bool) → (b == 32) ≡ s → (t : Bool) → (p == 32) ≡ t
        → (list_any is_space ps ≡ false
        → starts_with nat_eq bs (ps ++ 32 ∷ []) ≡ (bytes_eq (word_of bs) ps && list_any is_space bs))
        → starts_with nat_eq (b ∷ bs) (p ∷ (ps ++ 32 ∷ []))
        ≡ (bytes_eq (word_of (b ∷ bs)) (p ∷ ps) && list_any is_space (b ∷ bs))
    by s e true f more = let spaced : true ≡ false = rw f at h in absurd (true≢false spaced)
    by true e false f more = let other : (p == b) ≡ false = grind (arith, nat_tests, e, f) in rw (other, e) refl
    by false e false f more =
        rw (turned p b, e, one-more (prefix_len (λ x. not (is_space x)) bs), more (rw f at h))
        (regroup (b == p) (bytes_eq (word_of bs) ps) (list_any is_space bs))

spread : (a b c s : Bool) → ((a && s) || (b && s) || (c && s)) ≡ ((a || b || c) && s)
spread true b c true = refl
spread true b c false = by b c
  where
    by : (b c : Bool) → ((true && false) || (b && false) || (c && false)) ≡ false
    by true true = refl
    by true false = refl
    by false true = refl
    by false false = refl
spread false true c true = refl
spread false true true false = refl
spread false true false false = refl
spread false false c s = refl

pub file-word : (line : List ℕ) → (starts_with nat_eq line (codes "load ") || starts_with nat_eq line (codes "apply ")
    || starts_with nat_eq line (codes "try ")) ≡ has_file_word line
file-word line = rw (
  starts-word (codes "load") line refl,
  starts-word (codes "apply") line refl,
  starts-word (codes "try") line refl,
) (spread _ _ _ (list_any is_space line))

-- the words one after another
pub third : (line : List ℕ) → starts_with nat_eq line (codes "load ") ≡ false
    → starts_with nat_eq line (codes "apply ") ≡ false
    → starts_with nat_eq line (codes "try ") ≡ has_file_word line
third line load apply = rw (load, apply) at (file-word line)
