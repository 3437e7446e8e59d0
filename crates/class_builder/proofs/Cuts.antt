-- Cells without their last value.
use Rattle.std.proofs.Common.{◌≡◌, ◌==◌, ℕ, ◌-◌, ◌≤◌, cond, Some, None, length, replicate, nat_cmp, ap, ◌∙◌, inl, inr}
use Rattle.std.proofs.lemmas.Bool.{cases_lt}
use Rattle.std.proofs.lemmas.List.{set_past}
use Rattle.cube_defs.specs.Cell.{Cell, cell_prefix, depth, with_value}
use Rattle.cube_defs.specs.Tree.{parent_cell_of}
use Rattle.tree_laws.proofs.CallerLemmas.{depth-with_value, cell_prefix-with_value, cut_some, depth-any}

-- a new node's cell without its last value is its parent's
pub cut-with_value : (p : Cell ℕ) (i v : ℕ) → depth p ≤ i → (with_value p i v ≡ p → ⊥)
    → parent_cell_of nat_cmp (with_value p i v) ≡ Some p
cut-with_value p i v h new = elim (cases_lt i (length p)) [
  | inl l ↦ cut_some (with_value p i v) i (depth-with_value p i v h l)
      ∙ ap (λ c. Some c) (cell_prefix-with_value p i v h)
  | inr l ↦ absurd (new (set_past p i (Some v) l))
]

-- the root's has none to be cut
pub cut-root : (w : ℕ) → parent_cell_of nat_cmp (replicate w None) ≡ None
cut-root w = ap (λ d. cond (d == 0) None (Some (cell_prefix (d - 1) (replicate w None)))) (depth-any w)
