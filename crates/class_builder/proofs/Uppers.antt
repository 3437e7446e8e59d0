-- What the rows of a part share, where a cell covers them.
use Rattle.std.proofs.Common.{◌≡◌, ◌==◌, ◌&&◌, ℕ, suc, ◌<◌, ◌≤◌, true≢false, sym, refl, ap, ◌∙◌, arith, eq-eqb, get_or, true, false, Some}
use Rattle.std.proofs.Common.{List, [], ◌∷◌, length, nat_eq, subst}
use Rattle.std.proofs.lemmas.Bool.{false_from_ne_true}
use Rattle.std.specs.List.{AllByRecursion, list_all}
use Rattle.cube_defs.specs.Cell.{Cell, leq, cell_prefix, cell_eq}
use Rattle.cube_defs.specs.Rows.{Row, covers}
use Rattle.cube_laws.specs.Tuples.{cells_of}
use Rattle.cube_laws.proofs.CallerLemmas.{nat_equality, cell_eq-exact, cell_eq-same, all_cells, meet_all_above, IsShared, entry}
use Rattle.tree_laws.proofs.CallerLemmas.{cell_prefix-cell_prefix}
use Rattle.build_trace.specs.Walk.{same_prefix}
use Rattle.build_trace.proofs.CallerLemmas.{leq_entry}
use Rattle.base_table.specs.Places.{Places}
use Rattle.base_table.specs.declared.table.RowNo.{RowNo}
use Rattle.cell_closure.specs.Parts.{code_at}
use Rattle.cell_closure.proofs.CallerLemmas.{zeroth}
use Rattle.class_builder.proofs.Prefixes.{prefix_from_points, prefix_less, prefix_points}

abbrev pub AreCovered : Cell ℕ → List (Row ℕ) → Type 0
AreCovered c rows = AllByRecursion (λ row. covers nat_eq c row ≡ true) rows

pub covered_entry : (rows : List (Row ℕ)) (u c : Cell ℕ) (k x : ℕ) → IsShared rows u → AreCovered c rows
    → entry c k ≡ Some x → entry u k ≡ Some x
covered_entry rows u c k x e h f
    = leq_entry k x c u (meet_all_above nat_equality c (cells_of rows) u
    ((all_cells (λ d. leq nat_eq c d ≡ true) rows).1 h) e) f

-- cells with the same entries before a dimension, or not
pub same_at : (k : ℕ) (c d : Cell ℕ) → length c ≡ length d → ((j : ℕ) → j < k → entry c j ≡ entry d j)
    → same_prefix k c d ≡ true
same_at k c d l h = subst (λ x. cell_eq nat_eq (cell_prefix k c) x ≡ true) (prefix_from_points k c d l h)
    (cell_eq-same nat_equality (cell_prefix k c))

pub differs_at : (k j : ℕ) (c d : Cell ℕ) → j < k → (entry c j ≡ entry d j → ⊥) → same_prefix k c d ≡ false
differs_at k j c d l h = false_from_ne_true _ (λ t. h (prefix_points k j c d (cell_eq-exact nat_equality _ _ t) l))

pub prefix_at : (k j : ℕ) (c d : Cell ℕ) → same_prefix k c d ≡ true → j < k → entry c j ≡ entry d j
prefix_at k j c d t l = prefix_points k j c d (cell_eq-exact nat_equality _ _ t) l

pub differs_after : (j k : ℕ) (c d : Cell ℕ) → j < k → same_prefix (suc j) c d ≡ false → same_prefix k c d ≡ false
differs_after j k c d l h
    = false_from_ne_true _ (λ t. true≢false
    (sym (subst (λ x. cell_eq nat_eq (cell_prefix (suc j) c) x ≡ true)
    (prefix_less (suc j) k c d (omega arith) (cell_eq-exact nat_equality _ _ t))
    (cell_eq-same nat_equality (cell_prefix (suc j) c))) ∙ h))

-- a prefix is none of a cell that differs before it
pub prefix_apart : (k n : ℕ) (c d : Cell ℕ) → k ≤ n → same_prefix k c d ≡ false
    → cell_prefix k (cell_prefix n c) ≡ cell_prefix k d → ⊥
prefix_apart k n c d l h e
    = true≢false (sym (subst (λ x. cell_eq nat_eq (cell_prefix k c) x ≡ true) (sym (cell_prefix-cell_prefix k n c l)
    ∙ e) (cell_eq-same nat_equality (cell_prefix k c))) ∙ h)

-- the code of the first of the rows, which all have where there is no other
abbrev pub first_code : Places → ℕ → List RowNo → ℕ
first_code t k nos = code_at t k (get_or nos 0 zeroth)

pub lone_code : (t : Places) (k : ℕ) (nos : List RowNo) → length nos ≡ 1
    → list_all (λ n. code_at t k n == first_code t k nos) nos ≡ true
lone_code t k [] h = absurd (omega arith)
lone_code t k (x ∷ []) h = ap (λ b. b && true) (eq-eqb (code_at t k x) (code_at t k x) refl)
lone_code t k (x ∷ y ∷ nos) h = absurd (omega arith)
