-- Which nodes that generalize the tuple stay, and what they need so that their records can be mended.
use Rattle.std.proofs.Common.{◌≡◌, ◌≢◌, ◌↔◌, ◌∙◌, ℕ, zero, suc, ◌<◌, ◌≤◌, Bool, true, false, Option, Some, None, List, [], ◌∷◌, length}
use Rattle.std.proofs.Common.{slice_get, get_or, nat_eq, nat_cmp, is_some, refl, sym, ap, subst, arith, eqb-true, eq-eqb, true≢false}
use Rattle.std.proofs.lemmas.Bool.{and_parts, cond-true, cond-false, false_from_ne_true}
use Rattle.std.specs.FinMap as fin
use Rattle.std.specs.Map.{lookup}
use Rattle.std.specs.Option.{option_and_then, option_map}
use Rattle.std.specs.Ordering.{eq_by_cmp}
use Rattle.std.specs.Prelude.{IsSome, if◌then◌else◌}
use Rattle.cell_core.specs.declared.cell.NodeNo.{NodeNo}
use Rattle.cube_defs.specs.Cell.{Cell, cell_of, depth, entry_leq, cell_prefix, leq}
use Rattle.cube_defs.specs.Rows.{closure, covers, is_node}
use Rattle.cube_defs.specs.Tree.{Edge, Tree, cell_at}
use Rattle.cube_laws.specs.Lists.{Among}
use Rattle.cube_laws.proofs.CallerLemmas.{depth-le, leq_refl, cell_prefix-leq, meet_right, nat_equality, closure_length, all-insert}
use Rattle.cube_laws.proofs.CallerLemmas.{get_among, none_some, class_prefixes, is_node-is, closure_idem, is_class-is, leq_is}
use Rattle.qc_arena.specs.Map.{Known}
use Rattle.qc_arena.specs.RecordReaders.{number, record_at}
use Rattle.tree_laws.specs.Labels.{target_of_label, target_after_row}
use Rattle.tree_laws.proofs.CallerLemmas.{lead_own, some_same, there}
use Rattle.tree_search.specs.Found.{IsTreeOf}
use Rattle.batch_delete.specs.declared.generalizing.NodeCell.{NodeCell}
use Rattle.batch_delete.specs.declared.parts.Rest.{Rest}
use Rattle.batch_delete.specs.declared.plan.NodePlan.{NodePlan}
use Rattle.batch_delete.specs.Generalizing.{AreGeneralizing}
use Rattle.batch_delete.specs.Plan.{AreReady, Stays, planned_rest_in, heir_in, rest_if_own_heir_of, is_left, is_value, new_target}
use Rattle.batch_delete.specs.Plan.{next_entry, rest_if_stays_in}
use Rattle.batch_delete.specs.Rests.{ArePlanned, Deletion, IsPlanned, IsRest, rows_after, rows_before, shared_of, source_before}
use Rattle.batch_delete.proofs.Childs.{cell_wide}
use Rattle.batch_delete.proofs.Entries.{led_entry}
use Rattle.batch_delete.proofs.Labelled.{closed_at, edge_label, law}

zero_le : (n : ℕ) → 0 ≤ n
zero_le n = omega arith

-- a number that is its own heir stays with what is planned for it, and no other stays
pub own_stays : (plan : List (ℕ × NodePlan)) (q : ℕ) → heir_in plan q ≡ Some q
    → rest_if_stays_in plan q ≡ planned_rest_in plan q
own_stays plan q h = go (lookup (nat_eq q) plan) h
  where
    by : (e : Option NodeNo) (after : Option Rest) → option_map number e ≡ Some q
        → rest_if_own_heir_of q e after ≡ after
    by None after h = cc
    by (Some m) after h = cond-true _ _ _ (eq-eqb m.0 q (some_same h))

    go : (o : Option NodePlan) → option_and_then (λ fate. option_map number fate.heir) o ≡ Some q
        → option_and_then (λ fate. rest_if_own_heir_of q fate.heir fate.after) o ≡ option_and_then
        (λ fate. fate.after) o
    go None h = refl
    go (Some fate) h = by fate.heir fate.after h

pub other_goes : (plan : List (ℕ × NodePlan)) (q : ℕ) → heir_in plan q ≢ Some q → rest_if_stays_in plan q ≡ None
other_goes plan q h = go (lookup (nat_eq q) plan) h
  where
    by : (e : Option NodeNo) (after : Option Rest) → option_map number e ≢ Some q → rest_if_own_heir_of q e after ≡ None
    by None after h = refl
    by (Some m) after h = cond-false _ _ _ (false_from_ne_true _ (λ k. h (ap (λ x. Some x) (eqb-true m.0 q k))))

    go : (o : Option NodePlan) → option_and_then (λ fate. option_map number fate.heir) o ≢ Some q
        → option_and_then (λ fate. rest_if_own_heir_of q fate.heir fate.after) o ≡ None
    go None h = refl
    go (Some fate) h = by fate.heir fate.after h

-- whether a value is that of the tuple, by the tuple's entry and by the row's value
pub value_is : (t : List ℕ) (i v : ℕ) → is_value (get_or (cell_of t) i None) v ≡ true → slice_get t i ≡ Some v
value_is [] i v h = absurd (true≢false (sym h))
value_is (x ∷ t) zero v h = ap (λ y. Some y) (eqb-true x v h)
value_is (x ∷ t) (suc i) v h = value_is t i v h

pub value_isn't : (t : List ℕ) (i v : ℕ) → is_value (get_or (cell_of t) i None) v ≡ false → slice_get t i ≢ Some v
value_isn't [] i v h e = cc
value_isn't (x ∷ t) zero v h e = true≢false (sym (eq-eqb x v (some_same e)) ∙ h)
value_isn't (x ∷ t) (suc i) v h e = value_isn't t i v h e

module _ (width : ℕ) (tree : Tree ℕ) (tuple : Cell ℕ) (d : Deletion) (h : IsTreeOf width tree (source_before d))
    (long : length tuple ≡ width) (is : tuple ≡ cell_of d.r.tuple) where
  pub covered : (p : Cell ℕ) → leq nat_eq p tuple ≡ true → covers (eq_by_cmp nat_cmp) p d.r ≡ true
  covered p low = ap (leq (eq_by_cmp nat_cmp) p) (sym is) ∙ leq_is p tuple ∙ low

  pub covered_low : (p : Cell ℕ) → covers (eq_by_cmp nat_cmp) p d.r ≡ true → leq nat_eq p tuple ≡ true
  covered_low p c = sym (leq_is p tuple) ∙ ap (leq (eq_by_cmp nat_cmp) p) is ∙ c

  pub wide_after : (c w : Cell ℕ) → closure (eq_by_cmp nat_cmp) (rows_after d) c ≡ Some w → length w ≡ width
  wide_after c w e = closure_length (eq_by_cmp nat_cmp) width c w (rows_after d)
      (all-insert (λ row. length row.tuple ≡ width) d.xs d.r d.ys h.wide).0 e

  -- where an edge of a node that generalizes the tuple leads
  module _ (k : ℕ) (p : Cell ℕ) (at : cell_at tree k ≡ Some p) (low : leq nat_eq p tuple ≡ true) (x : Edge ℕ ℕ)
      (m : Among x (record_at tree k).edges) where
    pub edge_leads : (c : Cell ℕ) × (cell_at tree x.target ≡ Some c) × (depth p ≤ x.dim) × (x.dim < length p)
        × (target_of_label (eq_by_cmp nat_cmp) (rows_before d) p x.dim x.value ≡ Some c)
    edge_leads =
        let u = closed_at width tree (source_before d) h k p at in
        let l = edge_label width tree (source_before d) h k p at x m u.0 u.1 in
        (l.0, l.1, l.2.place.behind, l.2.place.within, l.2.leads)

    -- with the tuple's value to a node that generalizes it, and with no other
    pub own_low : is_value (get_or tuple x.dim None) x.value ≡ true → leq nat_eq edge_leads.0 tuple ≡ true
    own_low own =
        let value = value_is d.r.tuple x.dim x.value
        (ap (λ c. is_value (get_or c x.dim None) x.value) (sym is) ∙ own) in
        let same : Some edge_leads.0
        ≡ Some (target_after_row (eq_by_cmp nat_cmp)
        (target_of_label (eq_by_cmp nat_cmp) (rows_after d) p x.dim x.value) (cell_of d.r.tuple) x.dim) =
        sym edge_leads.4 ∙ lead_own law d.xs d.r d.ys p x.dim x.value (covered p low) edge_leads.2 edge_leads.3 value in
        covered_low edge_leads.0
        (rw (some_same same) (by (target_of_label (eq_by_cmp nat_cmp) (rows_after d) p x.dim x.value)))
      where
        by : (o : Option (Cell ℕ))
            → leq (eq_by_cmp nat_cmp) (target_after_row (eq_by_cmp nat_cmp) o (cell_of d.r.tuple) x.dim)
            (cell_of d.r.tuple) ≡ true
        by None = cell_prefix-leq law (suc x.dim) (cell_of d.r.tuple)
        by (Some c) = meet_right law c (cell_of d.r.tuple)

    pub low_own : leq nat_eq edge_leads.0 tuple ≡ true → is_value (get_or tuple x.dim None) x.value ≡ true
    low_own target = has edge_leads.0 tuple x.dim x.value target
        (led_entry law (rows_before d) p edge_leads.0 x.dim x.value edge_leads.2 edge_leads.3 edge_leads.4)
      where
        has : (c t : Cell ℕ) (i v : ℕ) → leq nat_eq c t ≡ true → slice_get c i ≡ Some (Some v)
            → is_value (get_or t i None) v ≡ true
        has [] t i v l e = cc
        has (f ∷ c) [] i v l e = absurd (true≢false (sym l))
        has (Some a ∷ c) (Some b ∷ t) zero v l e =
            let same : a ≡ v = some_same (some_same e) in
            eq-eqb b v (sym (eqb-true a b (and_parts (nat_eq a b) (leq nat_eq c t) l).0) ∙ same)
        has (Some a ∷ c) (None ∷ t) zero v l e = absurd (true≢false (sym l))
        has (None ∷ c) (f ∷ t) zero v l e = cc
        has (f ∷ c) (g ∷ t) (suc i) v l e = has c t i v (and_parts (entry_leq nat_eq f g) (leq nat_eq c t) l).1 e

  module _ (plan : List (ℕ × NodePlan)) (list : List NodeCell) (below : AreGeneralizing tree tuple (length tuple) list)
      (planned : ArePlanned d tree plan list 0) where
    -- a node that generalizes the tuple stands in the list
    pub place : (q : ℕ) (c : Cell ℕ) → cell_at tree q ≡ Some c → leq nat_eq c tuple ≡ true → (k : ℕ) × (b : NodeCell)
        × (slice_get list k ≡ Some b) × (b.node.0 ≡ q) × (b.cell ≡ c)
    place q c at low =
        let x = below.all q c at low (rw (← (cell_wide width tree (source_before d) h q c at
        ∙ sym long)) (depth-le c)) in
        (x.0, x.1, x.2, x.3, some_same (sym (below.cells x.0 x.1 x.2) ∙ ap (cell_at tree) x.3 ∙ at))

    -- what is planned for it
    pub fate : (q : ℕ) (c : Cell ℕ) → cell_at tree q ≡ Some c → leq nat_eq c tuple ≡ true
        → IsPlanned d tree plan (record { node = record { 0 = q }; cell = c })
    fate q c at low =
        let x = place q c at low in
        let p = planned x.0 x.1 (zero_le x.0) x.2 in
        rw (← x.3) (subst (λ y. IsPlanned d tree plan (record { node = record { 0 = x.1.node.0 }; cell = y })) x.4
        (record { after = p.after; heir = p.heir }))

    module _ (q : ℕ) (c : Cell ℕ) (at : cell_at tree q ≡ Some c) (low : leq nat_eq c tuple ≡ true) where
      -- it is its own heir just where it is a node afterwards
      pub own_heir : (heir_in plan q ≡ Some q) ↔ (is_node (eq_by_cmp nat_cmp) (rows_after d) c ≡ true)
      own_heir =
          let names = (fate q c at low).heir in
          let node = is_node-is law (rows_after d) c in (
            λ e. node.1 (named (option_map (cell_prefix (depth c)) (closure (eq_by_cmp nat_cmp) (rows_after d) c))
                (sym names ∙ ap (option_map (cell_at tree)) e ∙ ap (λ x. Some x) at)),
            λ k. back (heir_in plan q) (names ∙ ap (option_map (λ c. Some c)) (node.0 k)),
          )
        where
          named : (o : Option (Cell ℕ)) → option_map (λ c. Some c) o ≡ Some (Some c) → o ≡ Some c
          named None e = absurd (none_some e)
          named (Some x) e = some_same e

          back : (o : Option ℕ) → option_map (cell_at tree) o ≡ Some (Some c) → o ≡ Some q
          back None e = absurd (none_some e)
          back (Some j) e = ap (λ x. Some x) (h.canonical.once j q c (some_same e) at)

      pub stays_if : is_node (eq_by_cmp nat_cmp) (rows_after d) c ≡ true
          → rest_if_stays_in plan q ≡ planned_rest_in plan q
      stays_if k = own_stays plan q (own_heir.1 k)

      pub goes_if : is_node (eq_by_cmp nat_cmp) (rows_after d) c ≡ false → rest_if_stays_in plan q ≡ None
      goes_if k = other_goes plan q (λ e. true≢false (sym (own_heir.0 e) ∙ k))

      -- where it is one, it stays with what its rows come to
      pub staying_rest : is_node (eq_by_cmp nat_cmp) (rows_after d) c ≡ true → (rest : Rest)
          × (rest_if_stays_in plan q ≡ Some rest) × IsRest d.measures (rows_after d) c (Some rest)
      staying_rest k = go (planned_rest_in plan q) refl
        where
          some : option_map (cell_prefix (depth c)) (closure (eq_by_cmp nat_cmp) (rows_after d) c) ≡ Some c
          some = (is_node-is law (rows_after d) c).0 k

          go : (o : Option Rest) → planned_rest_in plan q ≡ o → (rest : Rest) × (rest_if_stays_in plan q ≡ Some rest)
              × IsRest d.measures (rows_after d) c (Some rest)
          go None e =
              let gone : None ≡ closure (eq_by_cmp nat_cmp) (rows_after d) c = ap shared_of (sym e)
              ∙ (fate q c at low).after.cells in
              absurd (none_some (ap (option_map (cell_prefix (depth c))) gone ∙ some))
          go (Some rest) e = (
            rest,
            stays_if k ∙ e,
            rw (← e) (fate q c at low).after,
          )

      -- and what stays is a node afterwards
      pub staying_node : (rest : Rest) → rest_if_stays_in plan q ≡ Some rest
          → is_node (eq_by_cmp nat_cmp) (rows_after d) c ≡ true
      staying_node rest e = go (is_node (eq_by_cmp nat_cmp) (rows_after d) c) refl
        where
          go : (b : Bool) → is_node (eq_by_cmp nat_cmp) (rows_after d) c ≡ b
              → is_node (eq_by_cmp nat_cmp) (rows_after d) c ≡ true
          go true k = k
          go false k = absurd (none_some (sym (goes_if k) ∙ e))

      -- its heir, where there are rows left, is the prefix of what they share
      pub heir_cell : (t : ℕ) → heir_in plan q ≡ Some t → (w : Cell ℕ)
          × (closure (eq_by_cmp nat_cmp) (rows_after d) c ≡ Some w) × (cell_at tree t ≡ Some (cell_prefix (depth c) w))
      heir_cell t e = go (closure (eq_by_cmp nat_cmp) (rows_after d) c) refl
        where
          names : Some (cell_at tree t) ≡ option_map (λ x. Some x)
              (option_map (cell_prefix (depth c)) (closure (eq_by_cmp nat_cmp) (rows_after d) c))
          names = ap (option_map (cell_at tree)) (sym e) ∙ (fate q c at low).heir

          go : (o : Option (Cell ℕ)) → closure (eq_by_cmp nat_cmp) (rows_after d) c ≡ o → (w : Cell ℕ)
              × (closure (eq_by_cmp nat_cmp) (rows_after d) c ≡ Some w)
              × (cell_at tree t ≡ Some (cell_prefix (depth c) w))
          go None k = absurd (none_some
              (sym (names ∙ ap (λ o. option_map (λ x. Some x) (option_map (cell_prefix (depth c)) o)) k)))
          go (Some w) k = (
            w,
            k,
            some_same (names
                ∙ ap (λ o. option_map (λ x. Some x) (option_map (cell_prefix (depth c)) o)) k),
          )

      pub heir_some : (w : Cell ℕ) → closure (eq_by_cmp nat_cmp) (rows_after d) c ≡ Some w → (t : ℕ)
          × (heir_in plan q ≡ Some t)
      heir_some w k = go (heir_in plan q) refl
        where
          go : (o : Option ℕ) → heir_in plan q ≡ o → (t : ℕ) × (heir_in plan q ≡ Some t)
          go None e = absurd (none_some (ap (option_map (cell_at tree)) (sym e) ∙ (fate q c at low).heir
              ∙ ap (λ o. option_map (λ x. Some x) (option_map (cell_prefix (depth c)) o)) k))
          go (Some t) e = (t, e)

    -- the prefix of what rows share is a node of these
    pub front_node : (c w : Cell ℕ) (i : ℕ) → closure (eq_by_cmp nat_cmp) (rows_after d) c ≡ Some w
        → is_node (eq_by_cmp nat_cmp) (rows_after d) (cell_prefix i w) ≡ true
    front_node c w i e = class_prefixes law (rows_after d) i w
        ((is_class-is law (rows_after d) w).1 (closure_idem law (rows_after d) c w e))

    -- a record of a node that doesn't generalize the tuple stays, where only those of the list change
    pub apart : (new : Tree ℕ) → ((q : ℕ) → ((k : ℕ) (b : NodeCell) → slice_get list k ≡ Some b → b.node.0 ≢ q)
        → fin.get new q ≡ fin.get tree q)
        → (q : ℕ) (n : Known) → fin.get tree q ≡ Some n → leq nat_eq n.cell tuple ≡ false → fin.get new q ≡ Some n
    apart new others q n e off =
        others q (λ k b at same.
        let cell : b.cell ≡ n.cell
        = some_same (sym (below.cells k b at) ∙ ap (cell_at tree) same
        ∙ ap (option_map (λ (m : Known). m.cell)) e) in
        true≢false (sym (below.below k b at) ∙ ap (λ c. leq nat_eq c tuple) cell ∙ off))
        ∙ e

    stays_node : (t : ℕ) (c : Cell ℕ) → cell_at tree t ≡ Some c → is_node (eq_by_cmp nat_cmp) (rows_after d) c ≡ true
        → Stays list plan t
    stays_node t c at node k b e same =
        let cell : b.cell ≡ c = some_same (sym (below.cells k b e) ∙ ap (cell_at tree) same ∙ at) in
        let r = staying_rest t c at (rw (← cell) (below.below k b e)) node in
        ap is_some r.1

    -- where an edge of a node that stays leads afterwards
    target_stays : (k j t : ℕ) (b : NodeCell) (next : Option (ℕ × ℕ)) (x : Edge ℕ ℕ) → slice_get list k ≡ Some b
        → slice_get (record_at tree b.node.0).edges j ≡ Some x
        → new_target tuple (heir_in plan) next x ≡ Some t → IsSome (fin.get tree t) × Stays list plan t
    target_stays k j t b next x e at led =
        by_left (is_left next x.dim x.value) led
      where
        low : leq nat_eq b.cell tuple ≡ true
        low = below.below k b e

        m : Among x (record_at tree b.node.0).edges
        m = get_among (record_at tree b.node.0).edges j x at

        to : (c : Cell ℕ) × (cell_at tree x.target ≡ Some c) × (depth b.cell ≤ x.dim) × (x.dim < length b.cell)
            × (target_of_label (eq_by_cmp nat_cmp) (rows_before d) b.cell x.dim x.value ≡ Some c)
        to = edge_leads b.node.0 b.cell (below.cells k b e) low x m

        by_own : (s : Bool) → is_value (get_or tuple x.dim None) x.value ≡ s
            → (if s then heir_in plan x.target else Some x.target) ≡ Some t → IsSome (fin.get tree t)
            × Stays list plan t
        by_own true own l =
            let w = heir_cell x.target to.0 to.1 (own_low b.node.0 b.cell (below.cells k b e) low x m own) t l in (
              there tree t (cell_prefix (depth to.0) w.0) w.2,
              stays_node t (cell_prefix (depth to.0) w.0) w.2 (front_node to.0 w.0 (depth to.0) w.1),
            )
        by_own false own l =
            let same : x.target ≡ t = some_same l in (
              rw (← same) (there tree x.target to.0 to.1),
              (λ i a f g.
                  let cell : a.cell ≡ to.0
                  = some_same (sym (below.cells i a f) ∙ ap (cell_at tree) (g ∙ sym same) ∙ to.1) in
                  absurd (true≢false (sym
                  (low_own b.node.0 b.cell (below.cells k b e) low x m
                  (rw (← cell) (below.below i a f))) ∙ own))),
            )

        by_left : (s : Bool) → (if s then (if is_value (get_or tuple x.dim None) x.value then heir_in plan x.target
            else Some x.target) else None) ≡ Some t → IsSome (fin.get tree t) × Stays list plan t
        by_left true l = by_own (is_value (get_or tuple x.dim None) x.value) refl l
        by_left false l = absurd (none_some l)

    pub ready : AreReady width tree tuple plan list
    ready = record {
      there = λ k b e. there tree b.node.0 b.cell (below.cells k b e);
      once = λ j k b c l e f same.
          let cells : b.cell ≡ c.cell
          = some_same (sym (below.cells j b e) ∙ ap (cell_at tree) same ∙ below.cells k c f) in
          true≢false (sym (leq_refl nat_equality b.cell) ∙ ap (λ y. leq nat_eq y b.cell) cells
          ∙ below.order j k b c l e f);
      cells = λ k b e. cell_wide width tree (source_before d) h b.node.0 b.cell (below.cells k b e);
      shared = λ k b rest e s.
          let node = staying_node b.node.0 b.cell (below.cells k b e) (below.below k b e) rest s in
          let r = staying_rest b.node.0 b.cell (below.cells k b e) (below.below k b e) node in
          wide_after b.cell rest.shared
          (sym (rw (some_same (sym r.1 ∙ s)) at r.2).cells);
      dims = λ k j b x e at.
          let to = edge_leads b.node.0 b.cell (below.cells k b e) (below.below k b e) x
          (get_among (record_at tree b.node.0).edges j x at) in
          rw (← (cell_wide width tree (source_before d) h b.node.0 b.cell (below.cells k b e))) to.3;
      behind = λ k j b x e at.
          (edge_leads b.node.0 b.cell (below.cells k b e) (below.below k b e) x
          (get_among (record_at tree b.node.0).edges j x at)).2;
      targets = λ k j t b rest x e s at led. target_stays k j t b (next_entry (depth b.cell) rest.shared) x e at led;
    }
