-- The labels of a node after a row that it covers, by those before.
use Rattle.std.proofs.Common.{◌≡◌, ◌↔◌, ℕ, ◌≤◌, ◌<◌, true, Some, None, List, ◌∷◌, ◌++◌, ◌≢◌, slice_get, length, sym, ap, ap₂, ◌∙◌, arith}
use Rattle.std.proofs.lemmas.Bool.{cond-true}
use Rattle.std.specs.declared.cmp.Ordering.{Ordering}
use Rattle.std.specs.Ordering.{eq_by_cmp}
use Rattle.std.specs.Cmp.{IsTotalOrder}
use Rattle.std.specs.FinMap.{IsAntisymmetric}
use Rattle.std.specs.Option.{option_map}
use Rattle.cube_defs.specs.Cell.{Cell, leq, meet, cell_of, depth, cell_prefix}
use Rattle.cube_defs.specs.Rows.{Row, covers, closure, meet_after, is_node}
use Rattle.cube_defs.specs.Tree.{Edge, next_value}
use Rattle.cube_laws.specs.Lists.{Among}
use Rattle.cube_laws.proofs.CallerLemmas.{IsEquality, leq_antisymm, meet_comm, meet_great, cell_prefix-leq, cell_prefix_mono}
use Rattle.cube_laws.proofs.CallerLemmas.{length-cell_prefix, cell_prefix-depth_cell_prefix, closure_idem, is_class-is, is_node-is}
use Rattle.cube_laws.proofs.CallerLemmas.{class_prefixes, closure-insert, equality_by}
use Rattle.tree_laws.specs.Labels.{target_of_label, target_after_row, IsWithin, record_of}
use Rattle.tree_laws.proofs.Lists.{some_same}
use Rattle.tree_laws.proofs.Prefixes.{depth-cell_prefix-le, cell_prefix-beyond}
use Rattle.tree_laws.proofs.Nexts.{cell_prefix-between, next-chain}
use Rattle.tree_laws.proofs.Leads.{closure_between, leq-chain, lead_chain, lead_other, lead_own}
use Rattle.tree_laws.proofs.Edges.{edges-are}

module _ {A : Type 0} {cmp : A → A → Ordering} (total : IsTotalOrder cmp) (anti : IsAntisymmetric cmp)
    (xs : List (Row A)) (r : Row A) (ys : List (Row A)) where
  law : IsEquality (eq_by_cmp cmp)
  law = equality_by total anti

  -- the closure after the row
  pub closure_met : (p u : Cell A) → covers (eq_by_cmp cmp) p r ≡ true → closure (eq_by_cmp cmp) (xs ++ ys) p ≡ Some u
      → closure (eq_by_cmp cmp) (xs ++ r ∷ ys) p ≡ Some (meet (eq_by_cmp cmp) u (cell_of r.tuple))
  closure_met p u c e = closure-insert law xs r ys p ∙ cond-true _ _ _ c
      ∙ ap (λ o. Some (meet_after (eq_by_cmp cmp) (cell_of r.tuple) o)) e
      ∙ ap (λ x. Some x) (meet_comm law (cell_of r.tuple) u)

  -- the chain node that a record is read of is the node itself, or it doesn't cover the row
  pub chain_own : (p u : Cell A) (i : ℕ) → closure (eq_by_cmp cmp) (xs ++ ys) p ≡ Some u
      → cell_prefix (depth p) (meet (eq_by_cmp cmp) u (cell_of r.tuple)) ≡ p
      → depth p ≤ i → i ≤ next_value cmp (depth p) (meet (eq_by_cmp cmp) u (cell_of r.tuple))
      → covers (eq_by_cmp cmp) (cell_prefix i u) r ≡ true → cell_prefix i u ≡ p
  chain_own p u i e front h k c =
      let below : leq (eq_by_cmp cmp) (cell_prefix i (cell_prefix i u))
      (cell_prefix i (meet (eq_by_cmp cmp) u (cell_of r.tuple))) ≡ true
      = cell_prefix_mono law i _ _
      (meet_great law (cell_prefix i u) u (cell_of r.tuple) (cell_prefix-leq law i u) c) in
      let same : cell_prefix i (cell_prefix i u) ≡ cell_prefix i u
      = cell_prefix-beyond i (cell_prefix i u) (depth-cell_prefix-le i u) in
      let is : cell_prefix i (meet (eq_by_cmp cmp) u (cell_of r.tuple)) ≡ p
      = cell_prefix-between cmp (depth p) i (meet (eq_by_cmp cmp) u (cell_of r.tuple)) h k ∙ front in
      leq_antisymm law (cell_prefix i u) p (ap₂ (λ x y. leq (eq_by_cmp cmp) x y) (sym same) (sym is) ∙ below)
      (leq-chain law (xs ++ ys) p u i e h)

  -- which cells are nodes after the row
  pub node_met : (p u : Cell A) → covers (eq_by_cmp cmp) p r ≡ true → closure (eq_by_cmp cmp) (xs ++ ys) p ≡ Some u
      → (is_node (eq_by_cmp cmp) (xs ++ r ∷ ys) p ≡ true)
      ↔ (cell_prefix (depth p) (meet (eq_by_cmp cmp) u (cell_of r.tuple)) ≡ p)
  node_met p u c e = node_by (closure_met p u c e)
    where
      node_by : {w : Cell A} → closure (eq_by_cmp cmp) (xs ++ r ∷ ys) p ≡ Some w
          → (is_node (eq_by_cmp cmp) (xs ++ r ∷ ys) p ≡ true) ↔ (cell_prefix (depth p) w ≡ p)
      node_by f = let is = is_node-is law (xs ++ r ∷ ys) p in let g = ap (option_map (cell_prefix (depth p))) f in
          (λ h. some_same (sym g ∙ is.0 h), λ h. is.1 (g ∙ ap (λ y. Some y) h))

  pub node_fresh : (p : Cell A) → covers (eq_by_cmp cmp) p r ≡ true → closure (eq_by_cmp cmp) (xs ++ ys) p ≡ None
      → (is_node (eq_by_cmp cmp) (xs ++ r ∷ ys) p ≡ true) ↔ (cell_prefix (depth p) (cell_of r.tuple) ≡ p)
  node_fresh p c e =
      let f : closure (eq_by_cmp cmp) (xs ++ r ∷ ys) p ≡ Some (cell_of r.tuple) = closure-insert law xs r ys p
      ∙ cond-true _ _ _ c ∙ ap (λ o. Some (meet_after (eq_by_cmp cmp) (cell_of r.tuple) o)) e in
      let is = is_node-is law (xs ++ r ∷ ys) p in
      let g = ap (option_map (cell_prefix (depth p))) f in
      (λ h. some_same (sym g ∙ is.0 h), λ h. is.1 (g ∙ ap (λ y. Some y) h))

module _ {A : Type 0} {cmp : A → A → Ordering} (total : IsTotalOrder cmp) (anti : IsAntisymmetric cmp) (measures : ℕ)
    (rows : List (Row A)) where
  -- the chain node is a node, and has p's closure
  pub chain_node : (p u : Cell A) (i : ℕ) → closure (eq_by_cmp cmp) rows p ≡ Some u → depth p ≤ i
      → (closure (eq_by_cmp cmp) rows (cell_prefix i u) ≡ Some u)
      × (is_node (eq_by_cmp cmp) rows (cell_prefix i u) ≡ true)
  chain_node p u i e h = (
    closure_between (equality_by total anti) rows p (cell_prefix i u) u e
        (leq-chain (equality_by total anti) rows p u i e h) (cell_prefix-leq (equality_by total anti) i u),
    class_prefixes (equality_by total anti) rows i u
        ((is_class-is (equality_by total anti) rows u).1 (closure_idem (equality_by total anti) rows p u e)),
  )

  -- a label of the chain node's record is what leads somewhere
  pub chain_label : (p u : Cell A) (x : Edge A (Cell A)) → closure (eq_by_cmp cmp) rows p ≡ Some u → depth p ≤ x.dim
      → x.dim < length u
      → Among x (record_of cmp measures rows (cell_prefix x.dim u) u).edges
      ↔ (target_of_label (eq_by_cmp cmp) rows (cell_prefix x.dim u) x.dim x.value ≡ Some x.target)
  chain_label p u x e h l =
      let are = edges-are total anti measures rows (cell_prefix x.dim u) u (chain_node p u x.dim e h).0
      (cell_prefix-depth_cell_prefix x.dim u) x in (
        λ m. (are.0 m).leads,
        λ k. are.1 (record {
          place
              = record {
                behind = depth-cell_prefix-le x.dim u;
                before = next-chain cmp x.dim u (omega arith);
                within
                    = omega (arith, length-cell_prefix x.dim u);
              };
          leads = k;
        }),
      )

module _ {A : Type 0} {cmp : A → A → Ordering} (total : IsTotalOrder cmp) (anti : IsAntisymmetric cmp) (measures : ℕ)
    (xs : List (Row A)) (r : Row A) (ys : List (Row A)) (p u : Cell A) (c : covers (eq_by_cmp cmp) p r ≡ true)
    (e : closure (eq_by_cmp cmp) (xs ++ ys) p ≡ Some u) (node : is_node (eq_by_cmp cmp) (xs ++ r ∷ ys) p ≡ true) where
  front : cell_prefix (depth p) (meet (eq_by_cmp cmp) u (cell_of r.tuple)) ≡ p
  front = (node_met total anti xs r ys p u c e).0 node

  after : (x : Edge A (Cell A))
      → Among x (record_of cmp measures (xs ++ r ∷ ys) p (meet (eq_by_cmp cmp) u (cell_of r.tuple))).edges
      ↔ (IsWithin p (next_value cmp (depth p) (meet (eq_by_cmp cmp) u (cell_of r.tuple))) x.dim
      × (target_of_label (eq_by_cmp cmp) (xs ++ r ∷ ys) p x.dim x.value ≡ Some x.target))
  after x =
      let are = edges-are total anti measures (xs ++ r ∷ ys) p (meet (eq_by_cmp cmp) u (cell_of r.tuple))
      (closure_met total anti xs r ys p u c e) front x in (
        λ m. let l = are.0 m in (l.place, l.leads),
        λ h. are.1 (record { place = h.0; leads = h.1 }),
      )

  module _ (x : Edge A (Cell A)) (long : length p ≡ length u) where
    chain : IsWithin p (next_value cmp (depth p) (meet (eq_by_cmp cmp) u (cell_of r.tuple))) x.dim
        → target_of_label (eq_by_cmp cmp) (xs ++ ys) p x.dim x.value ≡ target_of_label (eq_by_cmp cmp) (xs ++ ys)
        (cell_prefix x.dim u) x.dim x.value
    chain w = lead_chain (equality_by total anti) (xs ++ ys) p u x.dim x.value e w.behind w.within
        (omega (arith, w.within, length-cell_prefix x.dim u, long))

    -- an edge with another value than the row's is one of the old chain node
    pub other_edge : slice_get r.tuple x.dim ≢ Some x.value
        → Among x (record_of cmp measures (xs ++ r ∷ ys) p (meet (eq_by_cmp cmp) u (cell_of r.tuple))).edges
        ↔ (IsWithin p (next_value cmp (depth p) (meet (eq_by_cmp cmp) u (cell_of r.tuple))) x.dim
        × Among x (record_of cmp measures (xs ++ ys) (cell_prefix x.dim u) u).edges)
    other_edge o = (
      λ m. let a = (after x).0 m in (
        a.0,
        (chain_label total anti measures (xs ++ ys) p u x e a.0.behind (omega (arith, a.0.within, long))).1
            (sym (led a.0) ∙ a.1),
      ),
      λ h. (after x).1 (
        h.0,
        led h.0
            ∙ (chain_label total anti measures (xs ++ ys) p u x e h.0.behind (omega (arith, h.0.within, long))).0 h.1,
      ),
    )
      where
        led : IsWithin p (next_value cmp (depth p) (meet (eq_by_cmp cmp) u (cell_of r.tuple))) x.dim
            → target_of_label (eq_by_cmp cmp) (xs ++ r ∷ ys) p x.dim x.value ≡ target_of_label (eq_by_cmp cmp)
            (xs ++ ys) (cell_prefix x.dim u) x.dim x.value
        led w = lead_other (equality_by total anti) xs r ys p x.dim x.value c w.behind w.within o ∙ chain w

    -- the one with the row's value leads to what the old chain node's target and the row share, or to the row's prefix
    pub own_edge : slice_get r.tuple x.dim ≡ Some x.value
        → Among x (record_of cmp measures (xs ++ r ∷ ys) p (meet (eq_by_cmp cmp) u (cell_of r.tuple))).edges
        ↔ (IsWithin p (next_value cmp (depth p) (meet (eq_by_cmp cmp) u (cell_of r.tuple))) x.dim
        × (target_after_row (eq_by_cmp cmp)
        (target_of_label (eq_by_cmp cmp) (xs ++ ys) (cell_prefix x.dim u) x.dim x.value)
        (cell_of r.tuple) x.dim ≡ x.target))
    own_edge o = (
      λ m. let a = (after x).0 m in (a.0, some_same (sym (led a.0) ∙ a.1)),
      λ h. (after x).1 (h.0, led h.0 ∙ ap (λ y. Some y) h.1),
    )
      where
        led : IsWithin p (next_value cmp (depth p) (meet (eq_by_cmp cmp) u (cell_of r.tuple))) x.dim
            → target_of_label (eq_by_cmp cmp) (xs ++ r ∷ ys) p x.dim x.value
            ≡ Some (target_after_row (eq_by_cmp cmp)
            (target_of_label (eq_by_cmp cmp) (xs ++ ys) (cell_prefix x.dim u) x.dim x.value) (cell_of r.tuple) x.dim)
        led w = lead_own (equality_by total anti) xs r ys p x.dim x.value c w.behind w.within o
            ∙ ap (λ q. Some (target_after_row (eq_by_cmp cmp) q (cell_of r.tuple) x.dim)) (chain w)
