-- Cells with the same prefix.
use Rattle.std.proofs.Common.{◌≡◌, ℕ, zero, suc, ◌<◌, ◌≤◌, Some, [], ◌∷◌, length, refl, sym, ap, ◌∙◌, arith}
use Rattle.cube_defs.specs.Cell.{Cell, cell_prefix, with_value}
use Rattle.tree_laws.proofs.CallerLemmas.{cell_prefix-cell_prefix}
use Rattle.cube_laws.proofs.CallerLemmas.{entry}
use Rattle.build_trace.proofs.CallerLemmas.{cell_prefix_next, zero_prefix}

-- cells with the same entries before a dimension
pub prefix_from_points : (k : ℕ) (c d : Cell ℕ) → length c ≡ length d → ((j : ℕ) → j < k → entry c j ≡ entry d j)
    → cell_prefix k c ≡ cell_prefix k d
prefix_from_points zero c d l h = zero_prefix c d l
prefix_from_points (suc k) c d l h
    = cell_prefix_next k c d l (prefix_from_points k c d l (λ j m. h j (omega arith))) (h k (omega arith))

pub prefix_points : (k j : ℕ) (c d : Cell ℕ) → cell_prefix k c ≡ cell_prefix k d → j < k → entry c j ≡ entry d j
prefix_points zero j c d e l = absurd (omega arith)
prefix_points (suc k) j [] [] e l = refl
prefix_points (suc k) j [] (f ∷ d) e l = cc
prefix_points (suc k) j (x ∷ c) [] e l = cc
prefix_points (suc k) zero (x ∷ c) (y ∷ d) e l = cc
prefix_points (suc k) (suc j) (x ∷ c) (y ∷ d) e l = prefix_points k j c d (cc) (omega arith)

-- a prefix that ends with a value
pub prefix_value : (k v : ℕ) (c : Cell ℕ) → entry c k ≡ Some v
    → cell_prefix (suc k) c ≡ with_value (cell_prefix k c) k v
prefix_value k v [] e = cc
prefix_value zero v (x ∷ c) e = ap (λ y. y ∷ cell_prefix 0 c) e
prefix_value (suc k) v (x ∷ c) e = ap (λ d. x ∷ d) (prefix_value k v c e)

pub prefix_less : (k n : ℕ) (c d : Cell ℕ) → k ≤ n → cell_prefix n c ≡ cell_prefix n d
    → cell_prefix k c ≡ cell_prefix k d
prefix_less k n c d l e = sym (cell_prefix-cell_prefix k n c l) ∙ ap (λ b. cell_prefix k b) e
    ∙ cell_prefix-cell_prefix k n d l
