-- Nodes of a list are touched one after another.
use Rattle.std.proofs.Common.{◌≡◌, inl, inr, ℕ, ◌+◌, ◌<◌, true, false, ◌||◌, Some, List, nat_eq, slice_get, arith, ap, sym, ◌∙◌, eq-eqb}
use Rattle.std.proofs.Math.Bool.{or-true}
use Rattle.std.proofs.lemmas.Bool.Decides.{eqb_tells}
use Rattle.qc_arena.specs.Map.{Arena, is_touched}
use Rattle.tree_laws.proofs.CallerLemmas.{some_same}
use Rattle.batch_delete.specs.declared.generalizing.NodeCell.{NodeCell}

module _ (list : List NodeCell) (k : ℕ) (x : NodeCell) (at : slice_get list k ≡ Some x) (a b : Arena) (now : (q : ℕ)
    → is_touched b q ≡ (nat_eq x.node.0 q || is_touched a q)) where
  pub touched_more : ((j : ℕ) (c : NodeCell) → j < k → slice_get list j ≡ Some c → is_touched a c.node.0 ≡ true)
      → (j : ℕ) (c : NodeCell) → j < k + 1 → slice_get list j ≡ Some c → is_touched b c.node.0 ≡ true
  touched_more had j c l e = elim (eqb_tells j k) [
    | inl w ↦
        let same : x ≡ c = some_same (sym at ∙ ap (slice_get list) (sym w.1) ∙ e) in
        now c.node.0 ∙ ap (λ s. s || is_touched a c.node.0)
        (eq-eqb x.node.0 c.node.0 (ap (λ (y : NodeCell). y.node.0) same))
    | inr w ↦ let less : j < k = omega (arith, l, w.1) in
        now c.node.0 ∙ ap (λ s. nat_eq x.node.0 c.node.0 || s) (had j c less e) ∙ or-true (nat_eq x.node.0 c.node.0)
  ]

  pub only_more : (start : Arena) → ((q : ℕ) → is_touched a q ≡ true → is_touched start q ≡ false → (j : ℕ)
      × (c : NodeCell) × (slice_get list j ≡ Some c) × (c.node.0 ≡ q))
      → (q : ℕ) → is_touched b q ≡ true → is_touched start q ≡ false → (j : ℕ) × (c : NodeCell)
      × (slice_get list j ≡ Some c) × (c.node.0 ≡ q)
  only_more start had q e f = elim (eqb_tells x.node.0 q) [
    | inl w ↦ (k, x, at, w.1)
    | inr w ↦ had q (sym (now q ∙ ap (λ s. s || is_touched a q) w.0) ∙ e) f
  ]
