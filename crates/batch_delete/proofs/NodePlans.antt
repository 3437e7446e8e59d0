-- The nodes of the list are planned for one after another, from the last one on.
use Rattle.std.proofs.Common.{◌≡◌, ◌≢◌, ◌∙◌, ℕ, zero, suc, ◌+◌, ◌*◌, ◌<◌, ◌≤◌, Bool, true, false, Some, List, [], ◌∷◌, ap, arith, drop, inl}
use Rattle.std.proofs.Common.{inr, length, ltb-false, ltb-true, nat_cmp, nat_eq, nat_lt, refl, slice_get, sym, true≢false}
use Rattle.std.proofs.lemmas.Bool.Decides.{eqb_tells}
use Rattle.std.proofs.lemmas.List.Sums.{sum_by-cons}
use Rattle.std.specs.Option.{option_map}
use Rattle.std.specs.Ordering.{eq_by_cmp}
use Rattle.cube_defs.specs.Cell.{Cell, depth, cell_prefix, leq}
use Rattle.cube_defs.specs.Rows.{closure}
use Rattle.cube_defs.specs.Tree.{Tree, cell_at}
use Rattle.cube_laws.proofs.CallerLemmas.{depth-le, leq_refl, nat_equality}
use Rattle.qc_arena.specs.RecordReaders.{number}
use Rattle.tree_laws.proofs.CallerLemmas.{some_same}
use Rattle.tree_search.specs.Found.{IsTreeOf, IsNumberOfCell}
use Rattle.batch_delete.specs.declared.generalizing.NodeCell.{NodeCell}
use Rattle.batch_delete.specs.declared.plan.NodePlan.{NodePlan}
use Rattle.batch_delete.specs.Generalizing.{AreGeneralizing}
use Rattle.batch_delete.specs.Plan.{planned_rest_in, prefix_labels, heir_in, last_any_of, planning_cost}
use Rattle.batch_delete.specs.Rests.{ArePlanned, Deletion, IsRest, rows_after, source_before}
use Rattle.batch_delete.proofs.Childs.{cell_wide}

module _ (dims : ℕ) (tree : Tree ℕ) (d : Deletion) (h : IsTreeOf dims tree (source_before d)) (tuple : Cell ℕ)
    (wide : length tuple ≡ dims) (list : List NodeCell) (are : AreGeneralizing tree tuple (length tuple) list) where
  module _ (k : ℕ) (b : NodeCell) (at : slice_get list k ≡ Some b) (plan : List (ℕ × NodePlan))
      (had : ArePlanned d tree plan list (suc k)) where
    -- a greater node stands after
    pub greater_planned : (q : ℕ) (w : Cell ℕ) → cell_at tree q ≡ Some w → leq nat_eq w tuple ≡ true
        → leq nat_eq b.cell w ≡ true → leq nat_eq w b.cell ≡ false
        → IsRest d.measures (rows_after d) w (planned_rest_in plan q)
    greater_planned q w there low above apart =
        let f = are.all q w there low
        (omega (arith, depth-le w, cell_wide dims tree (source_before d) h q w there, wide)) in
        let cell : f.1.cell ≡ w = some_same (sym (are.cells f.0 f.1 f.2) ∙ ap (cell_at tree) f.3 ∙ there) in
        let rest = (had f.0 f.1 (behind f.0 f.1 w f.2 cell above apart (nat_lt f.0 k) refl) f.2).after in
        rw (← f.3) (rw cell at rest)
      where
        behind : (j : ℕ) (c : NodeCell) (w : Cell ℕ) → slice_get list j ≡ Some c → c.cell ≡ w
            → leq nat_eq b.cell w ≡ true → leq nat_eq w b.cell ≡ false → (t : Bool) → nat_lt j k ≡ t → suc k ≤ j
        behind j c w e same above apart true t
            = absurd (true≢false (sym above ∙ ap (leq nat_eq b.cell) (sym same)
            ∙ are.order j k c b (ltb-true _ _ t) e at))
        behind j c w e same above apart false t = elim (eqb_tells j k) [
          | inl i ↦
              let is : c ≡ b = some_same (sym e ∙ ap (slice_get list) i.1 ∙ at) in
              absurd (true≢false (sym (ap (λ x. leq nat_eq x b.cell) (sym same ∙ ap (λ (x : NodeCell). x.cell) is)
              ∙ leq_refl nat_equality b.cell) ∙ apart))
          | inr i ↦ let past : k ≤ j = ltb-false _ _ t in omega (arith, i.1)
        ]

    other_node : (j : ℕ) (c : NodeCell) → k < j → slice_get list j ≡ Some c → c.node.0 ≢ b.node.0
    other_node j c l e same =
        let cell : c.cell ≡ b.cell = some_same (sym (are.cells j c e) ∙ ap (cell_at tree) same ∙ are.cells k b at) in
        true≢false (sym (ap (λ x. leq nat_eq x b.cell) cell ∙ leq_refl nat_equality b.cell) ∙ are.order k j b c l at e)

    -- one node more
    pub planned_more : (new : List (ℕ × NodePlan)) (fate : NodePlan)
        → IsRest d.measures (rows_after d) b.cell fate.after
        → IsNumberOfCell tree (option_map number fate.heir)
        (option_map (cell_prefix (depth b.cell)) (closure (eq_by_cmp nat_cmp) (rows_after d) b.cell))
        → planned_rest_in new b.node.0 ≡ fate.after → heir_in new b.node.0 ≡ option_map number fate.heir
        → ((q : ℕ) → q ≢ b.node.0 → planned_rest_in new q ≡ planned_rest_in plan q)
        → ((q : ℕ) → q ≢ b.node.0 → heir_in new q ≡ heir_in plan q) → ArePlanned d tree new list k
    planned_more new fate after heir here named others heirs j c l e = elim (eqb_tells j k) [
      | inl i ↦
          let is : b ≡ c = some_same (sym at ∙ ap (slice_get list) (sym i.1) ∙ e) in
          record {
            after = rw (← is) (rw here after);
            heir =
                rw (← is) (rw named heir);
          }
      | inr i ↦
          let less : k < j = omega (arith, i.1) in
          let was = had j c less e in
          let apart = other_node j c less e in
          record {
            after = rw (others c.node.0 apart) was.after;
            heir = rw (heirs c.node.0 apart) was.heir;
          }
    ]

pub planning_more : (dims : ℕ) (tree : Tree ℕ) (list some : List NodeCell) (k : ℕ) (b : NodeCell)
    → slice_get some k ≡ Some b
    → planning_cost dims tree list (drop k some)
    ≡ (4 * dims + 7) * (1 + prefix_labels tree list b.cell (last_any_of b.cell)) + planning_cost dims tree list
    (drop (suc k) some)
planning_more dims tree list [] k b at = cc
planning_more dims tree list (x ∷ some) zero b at =
    sum_by-cons (λ (b : NodeCell). (4 * dims + 7) * (1 + prefix_labels tree list b.cell (last_any_of b.cell))) x some
    ∙ ap (λ (b : NodeCell). (4 * dims + 7) * (1 + prefix_labels tree list b.cell (last_any_of b.cell))
    + planning_cost dims tree list some) (some_same at)
planning_more dims tree list (x ∷ some) (suc k) b at = planning_more dims tree list some k b at
