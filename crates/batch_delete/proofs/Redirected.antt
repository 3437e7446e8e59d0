-- The edges of a node that stays, led on: they are those of its record afterwards.
use Rattle.std.proofs.Common.{◌≡◌, ◌∙◌, ℕ, suc, ◌<◌, ◌≤◌, Bool, true, false, ◌&&◌, ◌||◌, Option, Some, None, List, [], ◌∷◌, filter_map}
use Rattle.std.proofs.Common.{length, map, slice_get, get_or, nat_eq, nat_lt, nat_cmp, refl, sym, ap, ap₂, subst, arith, eqb-true, eq-eqb}
use Rattle.std.proofs.Common.{true≢false, ltb-true, ltb-false}
use Rattle.std.specs.List.Sorted.{IsStrictlySortedBy}
use Rattle.std.specs.Cmp.{nat_cmp_total}
use Rattle.std.specs.FinMap as fin
use Rattle.std.specs.List.{AllByRecursion, cons_option}
use Rattle.std.specs.Option.{option_map}
use Rattle.std.specs.Ordering.{eq_by_cmp, ordering_reverse, ordering_then}
use Rattle.std.specs.declared.cmp.Ordering.TheVariants.{Less}
use Rattle.std.specs.Prelude.{if◌then◌else◌}
use Rattle.cube_defs.specs.Cell.{Cell, cell_of, depth, cell_prefix, leq, upto, with_value}
use Rattle.cube_defs.specs.Rows.{closure, covers, is_node}
use Rattle.cube_defs.specs.Tree.{Edge, Tree, cell_at, next_value, renamed_edge}
use Rattle.cube_laws.specs.Lists.{Among}
use Rattle.cube_laws.proofs.CallerLemmas.{length-cell_prefix, rises-map, rises_same-by_turn, all_from, all_at, among_filter_map, among_map}
use Rattle.cube_laws.proofs.CallerLemmas.{map_among, none_some, prefix_of_class, then_turn}
use Rattle.qc_arena.specs.RecordReaders.{record_at}
use Rattle.tree_laws.specs.Edges.{edge_cmp}
use Rattle.tree_laws.specs.Labels.{IsLabel, IsWithin, target_of_label, record_of}
use Rattle.tree_laws.proofs.CallerLemmas.{lead_node, edges-are, only_forced, edges_rise, lead_less, lead_none, lead_other, led_from}
use Rattle.tree_laws.proofs.CallerLemmas.{some_same, next-entry, record_rises, no_further}
use Rattle.tree_search.specs.Found.{IsTreeOf}
use Rattle.batch_delete.specs.declared.generalizing.NodeCell.{NodeCell}
use Rattle.batch_delete.specs.declared.plan.NodePlan.{NodePlan}
use Rattle.batch_delete.specs.Generalizing.{AreGeneralizing}
use Rattle.batch_delete.specs.Plan.{heir_in, is_left, is_value, redirected_edge, new_target, next_entry}
use Rattle.batch_delete.specs.Rests.{ArePlanned, Deletion, rows_after, rows_before, source_before}
use Rattle.batch_delete.proofs.Entries.{entry_is, entry_some, led_depth}
use Rattle.batch_delete.proofs.Labelled.{closed_at, label_edge, law, made}
use Rattle.batch_delete.proofs.Outcomes.{covered, edge_leads, front_node, heir_cell, heir_some, own_low, value_is, value_isn't}

edge_turn : {T : Type 0} (x y : Edge ℕ T) → edge_cmp nat_cmp x y ≡ ordering_reverse (edge_cmp nat_cmp y x)
edge_turn x y = ap₂ ordering_then (nat_cmp_total.antisymm x.dim y.dim) (nat_cmp_total.antisymm x.value y.value)
    ∙ then_turn (nat_cmp y.dim x.dim) (nat_cmp y.value x.value)

module _ {S T : Type 0} (name : S → T) where
  pub rises_renamed : (xs : List (Edge ℕ S)) → IsStrictlySortedBy (edge_cmp nat_cmp) xs
      → IsStrictlySortedBy (edge_cmp nat_cmp) (map (renamed_edge name) xs)
  unfolding IsStrictlySortedBy
  rises_renamed xs h = rises-map (renamed_edge name) (edge_cmp nat_cmp) xs h

  pub renamed_rises : (xs : List (Edge ℕ S)) → IsStrictlySortedBy (edge_cmp nat_cmp) (map (renamed_edge name) xs)
      → IsStrictlySortedBy (edge_cmp nat_cmp) xs
  unfolding IsStrictlySortedBy
  renamed_rises [] h = tt
  renamed_rises (x ∷ xs) h = (below xs h.0, renamed_rises xs h.1)
    where
      below : (xs : List (Edge ℕ S))
          → AllByRecursion (λ y. edge_cmp nat_cmp (renamed_edge name x) y ≡ Less) (map (renamed_edge name) xs)
          → AllByRecursion (λ y. edge_cmp nat_cmp x y ≡ Less) xs
      below [] h = tt
      below (y ∷ xs) h = (h.0, below xs h.1)

led_label : (f : Edge ℕ ℕ → Option ℕ) (x y : Edge ℕ ℕ) → redirected_edge f x ≡ Some y → (t : ℕ) × (f x ≡ Some t)
    × (y ≡ record { dim = x.dim; value = x.value; target = t })
led_label f x y e = go (f x) refl e
  where
    go : (o : Option ℕ) → f x ≡ o → option_map (λ t. record { dim = x.dim; value = x.value; target = t }) o ≡ Some y
        → (t : ℕ) × (f x ≡ Some t) × (y ≡ record { dim = x.dim; value = x.value; target = t })
    go None k e = cc
    go (Some t) k e = (t, k, sym (some_same e))

pub rises_led : (f : Edge ℕ ℕ → Option ℕ) (xs : List (Edge ℕ ℕ)) → IsStrictlySortedBy (edge_cmp nat_cmp) xs
    → IsStrictlySortedBy (edge_cmp nat_cmp) (filter_map (redirected_edge f) xs)
unfolding IsStrictlySortedBy
rises_led f [] h = tt
rises_led f (x ∷ xs) h = go (rises_led f xs h.1) (redirected_edge f x) refl
  where
    less : (y z : Edge ℕ ℕ) → redirected_edge f x ≡ Some y → Among z (filter_map (redirected_edge f) xs)
        → edge_cmp nat_cmp y z ≡ Less
    less y z e m =
        let w = (among_filter_map (redirected_edge f) z xs).0 m in
        let a = led_label f x y e in
        let b = led_label f w.0 z w.2 in
        ap₂ (λ (p q : Edge ℕ ℕ). edge_cmp nat_cmp p q) a.2 b.2
        ∙ all_at (λ q. edge_cmp nat_cmp x q ≡ Less) w.0 xs h.0 w.1

    go : IsStrictlySortedBy (edge_cmp nat_cmp) (filter_map (redirected_edge f) xs) → (o : Option (Edge ℕ ℕ))
        → redirected_edge f x ≡ o
        → IsStrictlySortedBy (edge_cmp nat_cmp) (cons_option o (filter_map (redirected_edge f) xs))
    go more None e = more
    go more (Some y) e = (
      all_from (λ z. edge_cmp nat_cmp y z ≡ Less) (filter_map (redirected_edge f) xs)
          (λ z m. less y z e m),
      more,
    )

-- how far the labels reach
module _ (p w : Cell ℕ) (same : length p ≡ length w) where
  -- the dimension of the forced child
  abbrev next : ℕ
  next = next_value nat_cmp (depth p) w

  pub left_within : (i v : ℕ) → is_left (next_entry (depth p) w) i v ≡ true → i < length p → i ≤ next
  left_within i v h l = go (get_or w next None) refl h
    where
      e : ℕ
      e = next

      reach : (b c : Bool) → nat_lt i next ≡ b → nat_eq i next ≡ c → (v' : ℕ) → (b || (c && nat_eq v v')) ≡ true → i ≤ next
      reach true c s t v' k = let less = ltb-true i next s in omega (arith, less)
      reach false true s t v' k = let is = eqb-true i next t in omega (arith, is)
      reach false false s t v' k = absurd (true≢false (sym k))

      beyond : (a : Bool) → nat_lt next (length w) ≡ a → get_or w next None ≡ None → i ≤ next
      beyond true a n =
          let x = next-entry nat_cmp (depth p) w (ltb-true next (length w) a) in
          absurd (none_some (sym n ∙ entry_is w next (Some x.0) x.1))
      beyond false a n = let past = ltb-false next (length w) a in
          omega (arith, past, l, same)

      go : (o : Option ℕ) → get_or w next None ≡ o → is_left (option_map (λ v. (next, v)) o) i v ≡ true → i ≤ next
      go None n k = beyond (nat_lt next (length w)) refl n
      go (Some v') n k = reach (nat_lt i next) (nat_eq i next) refl refl v' k

module _ (width : ℕ) (tree : Tree ℕ) (tuple : Cell ℕ) (d : Deletion) (h : IsTreeOf width tree (source_before d))
    (long : length tuple ≡ width) (is : tuple ≡ cell_of d.r.tuple)
    (plan : List (ℕ × NodePlan)) (list : List NodeCell) (below : AreGeneralizing tree tuple (length tuple) list)
    (planned : ArePlanned d tree plan list 0)
    (name : ℕ → Option (Cell ℕ)) (still : (l : ℕ) (c : Cell ℕ) → cell_at tree l ≡ Some c
    → is_node (eq_by_cmp nat_cmp) (rows_after d) c ≡ true → name l ≡ Some c)
    (q : ℕ) (p w : Cell ℕ) (at : cell_at tree q ≡ Some p) (low : leq nat_eq p tuple ≡ true)
    (node : is_node (eq_by_cmp nat_cmp) (rows_after d) p ≡ true)
    (closed : closure (eq_by_cmp nat_cmp) (rows_after d) p ≡ Some w) where
  over : covers (eq_by_cmp nat_cmp) p d.r ≡ true
  over = covered width tree tuple d h long is p low

  front : cell_prefix (depth p) w ≡ p
  front = (prefix_of_class law (rows_after d) p w closed node).1

  same_long : length p ≡ length w
  same_long = sym (ap length front) ∙ length-cell_prefix (depth p) w

  leads : Edge ℕ ℕ → Option ℕ
  leads x = new_target tuple (heir_in plan) (next_entry (depth p) w) x

  -- the dimension of the prefix's forced child
  abbrev forced_dim : ℕ
  forced_dim = next_value nat_cmp (depth p) w

  abbrev label : Edge ℕ (Cell ℕ) → Type 0
  label y = IsLabel nat_cmp (rows_after d) p forced_dim y

  is_own : (x : Edge ℕ ℕ) → is_value (get_or tuple x.dim None) x.value ≡ true → slice_get d.r.tuple x.dim ≡ Some x.value
  is_own x own = value_is d.r.tuple x.dim x.value (ap (λ c. is_value (get_or c x.dim None) x.value) (sym is) ∙ own)

  -- an edge that is left leads to where its label does
  pub led_sound : (x : Edge ℕ ℕ) → Among x (record_at tree q).edges → (t : ℕ)
      → new_target tuple (heir_in plan) (next_entry (depth p) w) x ≡ Some t
      → (c : Cell ℕ) × (name t ≡ Some c)
      × label
      (record { dim = x.dim; value = x.value; target = c })
  led_sound x m t led = by_left (is_left (next_entry (depth p) w) x.dim x.value) refl led
    where
      to : (c : Cell ℕ) × (cell_at tree x.target ≡ Some c) × (depth p ≤ x.dim) × (x.dim < length p)
          × (target_of_label (eq_by_cmp nat_cmp) (rows_before d) p x.dim x.value ≡ Some c)
      to = edge_leads width tree tuple d h long is q p at low x m

      within : is_left (next_entry (depth p) w) x.dim x.value ≡ true → IsWithin p forced_dim x.dim
      within l = record { behind = to.2; before = left_within p w same_long x.dim x.value l to.3; within = to.3 }

      by_own : is_left (next_entry (depth p) w) x.dim x.value ≡ true → (s : Bool)
          → is_value (get_or tuple x.dim None) x.value ≡ s
          → (if s then heir_in plan x.target else Some x.target) ≡ Some t
          → (c : Cell ℕ) × (name t ≡ Some c)
          × label
          (record { dim = x.dim; value = x.value; target = c })
      by_own l true own e =
          let down = own_low width tree tuple d h long is q p at low x m own in
          let z = heir_cell width tree tuple d h long is plan list below planned x.target to.0 to.1 down t e in
          let deep = led_depth law (rows_before d) p to.0 x.dim x.value to.2 to.3 to.4 in
          let cell : cell_at tree t ≡ Some (upto z.0 x.dim) = z.2 ∙ ap (λ n. Some (cell_prefix n z.0)) deep in (
            upto z.0 x.dim,
            still t (upto z.0 x.dim) cell (front_node width tree tuple d h long is plan list below planned to.0 z.0
                (suc x.dim) z.1),
            record {
              place = within l;
              leads = lead_less law d.xs d.r d.ys p to.0 x.dim x.value to.2 to.3 to.4
                  ∙ ap (option_map (λ u. upto u x.dim)) z.1;
            },
          )
      by_own l false own e =
          let same : x.target ≡ t = some_same e in
          let lead_is : target_of_label (eq_by_cmp nat_cmp) (rows_after d) p x.dim x.value ≡ Some to.0 =
          sym (lead_other law d.xs d.r d.ys p x.dim x.value over to.2 to.3
          (value_isn't d.r.tuple x.dim x.value (ap (λ c. is_value (get_or c x.dim None) x.value) (sym is) ∙ own)))
          ∙ to.4 in (
            to.0,
            still t to.0 (ap (cell_at tree) (sym same) ∙ to.1)
                (lead_node law (rows_after d) p x.dim x.value to.0 lead_is),
            record { place = within l; leads = lead_is },
          )

      by_left : (s : Bool) → is_left (next_entry (depth p) w) x.dim x.value ≡ s
          → (if s then (if is_value (get_or tuple x.dim None) x.value then heir_in plan x.target else Some x.target)
          else None) ≡ Some t
          → (c : Cell ℕ) × (name t ≡ Some c)
          × label
          (record { dim = x.dim; value = x.value; target = c })
      by_left true l e = by_own l (is_value (get_or tuple x.dim None) x.value) refl e
      by_left false l e = cc

  label_left : (y : Edge ℕ (Cell ℕ)) → label y → is_left (next_entry (depth p) w) y.dim y.value ≡ true
  label_left y l = go (get_or w forced_dim None) refl
    where
      less : (b : Bool) → nat_lt y.dim forced_dim ≡ b → (v' : ℕ) → get_or w forced_dim None ≡ Some v'
          → (b || (nat_eq y.dim forced_dim && nat_eq y.value v')) ≡ true
      less true s v' e = refl
      less false s v' e =
          let past = ltb-false y.dim forced_dim s in
          let dims : y.dim ≡ forced_dim = omega (arith, past, l.place.before) in
          let from = led_from law (closure (eq_by_cmp nat_cmp) (rows_after d) (with_value p y.dim y.value)) y.dim
          y.target l.leads in
          let value : y.value ≡ v' =
          only_forced nat_cmp_total fin.nat_cmp-IsAntisymmetric (rows_after d) p w from.0 y.dim v' y.value closed
          l.place.behind l.place.within (ap (slice_get w) dims ∙ entry_some w forced_dim v' e) from.1 in
          ap₂ (λ a b. a && b) (eq-eqb y.dim forced_dim dims) (eq-eqb y.value v' value)

      go : (o : Option ℕ) → get_or w forced_dim None ≡ o → is_left (option_map (λ v. (forced_dim, v)) o) y.dim y.value ≡ true
      go None e = refl
      go (Some v') e = less (nat_lt y.dim forced_dim) refl v' e

  -- each label that leads somewhere has an edge that is left
  pub led_whole : (y : Edge ℕ (Cell ℕ)) → label y → (x : Edge ℕ ℕ) × (t : ℕ) × Among x (record_at tree q).edges
      × (new_target tuple (heir_in plan) (next_entry (depth p) w) x ≡ Some t) × (x.dim ≡ y.dim)
      × (x.value ≡ y.value)
  led_whole y l = go (target_of_label (eq_by_cmp nat_cmp) (rows_before d) p y.dim y.value) refl
    where
      u : (u : Cell ℕ) × (closure (eq_by_cmp nat_cmp) (rows_before d) p ≡ Some u)
      u = closed_at width tree (source_before d) h q p at

      at_edge : (c : Cell ℕ) → target_of_label (eq_by_cmp nat_cmp) (rows_before d) p y.dim y.value ≡ Some c
          → (x : Edge ℕ ℕ) → Among x (record_at tree q).edges → x.dim ≡ y.dim → x.value ≡ y.value
          → cell_at tree x.target ≡ Some c
          → (s : Bool) → is_value (get_or tuple x.dim None) x.value ≡ s → (t : ℕ)
          × ((if s then heir_in plan x.target else Some x.target) ≡ Some t)
      at_edge c e x m dim value there true own =
          let to = edge_leads width tree tuple d h long is q p at low x m in
          let down = own_low width tree tuple d h long is q p at low x m own in
          let cell : to.0 ≡ c = some_same (sym to.1 ∙ there) in
          let target_after_row : option_map (λ z. upto z y.dim) (closure (eq_by_cmp nat_cmp) (rows_after d) c)
          ≡ Some y.target = sym (lead_less law d.xs d.r d.ys p c y.dim y.value l.place.behind l.place.within e)
          ∙ l.leads in
          let z = led_from law (closure (eq_by_cmp nat_cmp) (rows_after d) c) y.dim y.target target_after_row in
          let t = heir_some width tree tuple d h long is plan list below planned x.target to.0 to.1 down z.0
          (ap (closure (eq_by_cmp nat_cmp) (rows_after d)) cell ∙ z.1) in
          (t.0, t.1)
      at_edge c e x m dim value there false own = (x.target, refl)

      go : (o : Option (Cell ℕ)) → target_of_label (eq_by_cmp nat_cmp) (rows_before d) p y.dim y.value ≡ o
          → (x : Edge ℕ ℕ) × (t : ℕ) × Among x (record_at tree q).edges
          × (new_target tuple (heir_in plan) (next_entry (depth p) w) x ≡ Some t) × (x.dim ≡ y.dim)
          × (x.value ≡ y.value)
      go None e = absurd (none_some (sym (lead_none law d.xs d.r d.ys p y.dim y.value e) ∙ l.leads))
      go (Some c) e =
          let reach = no_further nat_cmp_total fin.nat_cmp-IsAntisymmetric d.measures d.xs d.r d.ys p u.0 w over u.1
          closed node in
          let x = label_edge width tree (source_before d) h q p at (record { dim = y.dim; value = y.value; target = c })
          u.0 u.1 (record {
            place
                = record {
                  behind = l.place.behind;
                  before = omega (arith, l.place.before, reach);
                  within
                      = l.place.within;
                };
            leads = e;
          }) in
          let t = at_edge c e x.0 x.1 x.2 x.3 x.4 (is_value (get_or tuple x.0.dim None) x.0.value) refl in
          let left : is_left (next_entry (depth p) w) x.0.dim x.0.value ≡ true
          = ap₂ (is_left (next_entry (depth p) w)) x.2 x.3 ∙ label_left y l in (
            x.0,
            t.0,
            x.1,
            ap (λ b. if b
                then (if is_value (get_or tuple x.0.dim None) x.0.value then heir_in plan x.0.target else Some x.0.target)
                else None) left ∙ t.1,
            x.2,
            x.3,
          )

  pub labels_are : (y : Edge ℕ (Cell ℕ)) → Among y (record_of nat_cmp d.measures (rows_after d) p w).edges → label y
  labels_are y m = (edges-are nat_cmp_total fin.nat_cmp-IsAntisymmetric d.measures (rows_after d) p w closed front y).0
      m

  are_labels : (y : Edge ℕ (Cell ℕ)) → label y → Among y (record_of nat_cmp d.measures (rows_after d) p w).edges
  are_labels y l = (edges-are nat_cmp_total fin.nat_cmp-IsAntisymmetric d.measures (rows_after d) p w closed front y).1
      l

  abbrev pub left_edges : List (Edge ℕ ℕ)
  left_edges = filter_map (redirected_edge (new_target tuple (heir_in plan) (next_entry (depth p) w)))
      (record_at tree q).edges

  -- an edge that is left
  pub edge_sound : (x : Edge ℕ ℕ) → Among x left_edges → (c : Cell ℕ) × (name x.target ≡ Some c) × label
      (record { dim = x.dim; value = x.value; target = c })
  edge_sound x m =
      let o = (among_filter_map (redirected_edge (new_target tuple (heir_in plan) (next_entry (depth p) w))) x
      (record_at tree q).edges).0 m in
      let a = led_label (new_target tuple (heir_in plan) (next_entry (depth p) w)) o.0 x o.2 in
      let s = led_sound o.0 o.1 a.0 a.1 in
      rw a.2 s

  pub edge_whole : (y : Edge ℕ (Cell ℕ)) → label y
      → (x : Edge ℕ ℕ) × Among x left_edges × (x.dim ≡ y.dim) × (x.value ≡ y.value) × (name x.target ≡ Some y.target)
  edge_whole y l =
      let o = led_whole y l in
      let x : Edge ℕ ℕ = record { dim = o.0.dim; value = o.0.value; target = o.1 } in
      let m : Among x left_edges
      = (among_filter_map (redirected_edge (new_target tuple (heir_in plan) (next_entry (depth p) w))) x
      (record_at tree q).edges).1 (
        o.0,
        o.2,
        ap (option_map (λ t. record { dim = o.0.dim; value = o.0.value; target = t })) o.3,
      ) in
      let s = edge_sound x m in
      let same : Some s.0 ≡ Some y.target
      = sym s.2.leads ∙ ap₂ (target_of_label (eq_by_cmp nat_cmp) (rows_after d) p) o.4 o.5 ∙ l.leads in
      (x, m, o.4, o.5, s.1 ∙ same)

  old_rises : IsStrictlySortedBy (edge_cmp nat_cmp) (record_at tree q).edges
  unfolding IsStrictlySortedBy
  old_rises =
      let m = made width tree (source_before d) h q p at in
      renamed_rises (cell_at tree) (record_at tree q).edges
      (subst (λ n. IsStrictlySortedBy (edge_cmp nat_cmp) n.edges) (sym m.2)
      (rises_renamed (λ c. Some c) m.0.edges
      (record_rises nat_cmp_total fin.nat_cmp-IsAntisymmetric d.measures (rows_before d) p m.0 m.1)))

  pub edges_now : map (renamed_edge name) left_edges ≡ map (renamed_edge (λ c. Some c))
      (record_of nat_cmp d.measures (rows_after d) p w).edges
  edges_now =
      rises_same-by_turn edge_turn (map (renamed_edge name) left_edges)
      (map (renamed_edge (λ c. Some c)) (record_of nat_cmp d.measures (rows_after d) p w).edges)
      (rises_renamed name left_edges
      (rises_led (new_target tuple (heir_in plan) (next_entry (depth p) w)) (record_at tree q).edges old_rises))
      (rises_renamed (λ c. Some c) (record_of nat_cmp d.measures (rows_after d) p w).edges
      (edges_rise nat_cmp_total fin.nat_cmp-IsAntisymmetric d.measures (rows_after d) p w
      forced_dim)) (λ z m.
      let x = among_map (renamed_edge name) z left_edges m in
      let s = edge_sound x.0 x.1 in
      let y : Edge ℕ (Cell ℕ) = record { dim = x.0.dim; value = x.0.value; target = s.0 } in
      let same : z ≡ renamed_edge (λ c. Some c) y
      = x.2 ∙ ap (λ o. record { dim = x.0.dim; value = x.0.value; target = o }) s.1 in
      subst (λ z. Among z (map (renamed_edge (λ c. Some c)) (record_of nat_cmp d.measures (rows_after d) p w).edges))
      (sym same) (map_among (renamed_edge (λ c. Some c)) y (record_of nat_cmp d.measures (rows_after d) p w).edges
      (are_labels y s.2)))
      (λ z m.
      let y = among_map (renamed_edge (λ c. Some c)) z (record_of nat_cmp d.measures (rows_after d) p w).edges m in
      let x = edge_whole y.0 (labels_are y.0 y.1) in
      let same : z ≡ renamed_edge name x.0
      = y.2 ∙ (λ i. record { dim = sym x.2 i; value = sym x.3 i; target = sym x.4 i }) in
      subst (λ z. Among z (map (renamed_edge name) left_edges)) (sym same)
      (map_among (renamed_edge name) x.0 left_edges x.1))
