-- Labels lead to nodes, and each node but the root is a child of the node without its last value.
use Rattle.std.proofs.Common.{◌≡◌, ◌↔◌, inl, inr, ℕ, suc, ◌≤◌, ◌<◌, Bool, true, Some, None, List, length, slice_get, sym, ap, ap₂, subst}
use Rattle.std.proofs.Common.{◌∙◌, arith}
use Rattle.std.specs.Option.{option_map}
use Rattle.std.specs.declared.cmp.Ordering.{Ordering}
use Rattle.cube_defs.specs.Cell.{Cell, leq, depth, cell_prefix, upto, with_value}
use Rattle.cube_defs.specs.Rows.{Row, closure, is_node}
use Rattle.cube_defs.specs.Tree.{next_value}
use Rattle.cube_laws.proofs.CallerLemmas.{IsEquality, leq_trans, cell_prefix_mono, length-cell_prefix, depth-le, closure_idem, closure_mono}
use Rattle.cube_laws.proofs.CallerLemmas.{leq-closure, is_class-is, one_value, one_value-leq, is_node-is, class_prefixes, prefix_of_class}
use Rattle.cube_laws.proofs.CallerLemmas.{node_closed}
use Rattle.tree_laws.specs.Labels.{target_of_label}
use Rattle.tree_laws.proofs.Leads.{led_from}
use Rattle.tree_laws.proofs.Lists.{le_or, first_of_range}
use Rattle.tree_laws.proofs.Prefixes.{depth-cell_prefix-le, cell_prefix-beyond, depth-with_value, depth-one_value, split_last}
use Rattle.tree_laws.proofs.Prefixes.{cell_prefix-cell_prefix, any_after, leq-with_value, with_value-there, with_value-other}
use Rattle.tree_laws.proofs.Nexts.{next-ge, next-entry}

module _ {A : Type 0} {eq : A → A → Bool} (law : IsEquality eq) (rows : List (Row A)) where
  -- each prefix of a node is a node
  pub node_prefixes : (c : Cell A) (k : ℕ) → is_node eq rows c ≡ true → is_node eq rows (cell_prefix k c) ≡ true
  node_prefixes c k h =
      let u = node_closed law rows c h in
      elim (le_or k (depth c)) [
        | inl l ↦ subst (λ x. is_node eq rows x ≡ true) (sym (cell_prefix-cell_prefix k (depth c) u.0 l)
            ∙ ap (cell_prefix k) u.2) (class_prefixes law rows k u.0 (prefix_of_class law rows c u.0 u.1 h).0)
        | inr l ↦ subst (λ x. is_node eq rows x ≡ true) (sym (cell_prefix-beyond k c l)) h
      ]

  -- a label leads to a node
  pub lead_node : (p : Cell A) (i : ℕ) (v : A) (c : Cell A) → target_of_label eq rows p i v ≡ Some c
      → is_node eq rows c ≡ true
  lead_node p i v c h =
      let f : (w : Cell A) × (closure eq rows (with_value p i v) ≡ Some w) × (upto w i ≡ c)
      = led_from law (closure eq rows (with_value p i v)) i c h in
      subst (λ x. is_node eq rows x ≡ true) f.2
      (class_prefixes law rows (suc i) f.0
      ((is_class-is law rows f.0).1 (closure_idem law rows (with_value p i v) f.0 f.1)))

  -- which specializes p with the value
  pub lead_above : (p : Cell A) (i : ℕ) (v : A) (c : Cell A) → depth p ≤ i → i < length p
      → target_of_label eq rows p i v ≡ Some c → leq eq (with_value p i v) c ≡ true
  lead_above p i v c d l h =
      let f : (w : Cell A) × (closure eq rows (with_value p i v) ≡ Some w) × (upto w i ≡ c)
      = led_from law (closure eq rows (with_value p i v)) i c h in
      ap₂ (λ x y. leq eq x y)
      (sym (cell_prefix-beyond (suc i) (with_value p i v) (omega (arith, depth-with_value p i v d l)))) (sym f.2)
      ∙ cell_prefix_mono law (suc i) (with_value p i v) f.0 (leq-closure law rows (with_value p i v) f.0 f.1)

  -- a tree child is a node just where the label leads to it
  pub child-is : (p : Cell A) (i : ℕ) (v : A) → depth p ≤ i → i < length p → (is_node eq rows (with_value p i v) ≡ true)
      ↔ (target_of_label eq rows p i v ≡ Some (with_value p i v))
  child-is p i v d l =
      let is = is_node-is law rows (with_value p i v) in
      let same : option_map (cell_prefix (depth (with_value p i v))) (closure eq rows (with_value p i v))
      ≡ target_of_label eq rows p i v
      = ap (λ k. option_map (cell_prefix k) (closure eq rows (with_value p i v))) (depth-with_value p i v d l) in
      (λ h. sym same ∙ is.0 h, λ h. is.1 (same ∙ h))

  -- each node but the root is a tree child of the node without its last value
  pub node_above : (c : Cell A) (i : ℕ) → depth c ≡ suc i → is_node eq rows c ≡ true
      → (v : A) × (c ≡ with_value (cell_prefix i c) i v) × (slice_get c i ≡ Some (Some v))
      × (is_node eq rows (cell_prefix i c) ≡ true) × (target_of_label eq rows (cell_prefix i c) i v ≡ Some c)
  node_above c i d h =
      let s : (v : A) × (c ≡ with_value (cell_prefix i c) i v) × (slice_get c i ≡ Some (Some v)) = split_last c i d in
      let long : i < length (cell_prefix i c) = omega (arith, length-cell_prefix i c, depth-le c, d) in
      let k = (child-is (cell_prefix i c) i s.0 (depth-cell_prefix-le i c) long).0
      (subst (λ x. is_node eq rows x ≡ true) s.1 h) in
      (s.0, s.1, s.2, node_prefixes c i h, k ∙ ap (λ x. Some x) (sym s.1))

  -- a child that is a node lies in the dimension of the closure's next value, or before it
  module _ (p u : Cell A) (i : ℕ) (v : A) (is : closure eq rows p ≡ Some u) (d : depth p ≤ i) (l : i < length p)
      (node : is_node eq rows (with_value p i v) ≡ true) where
    -- and it has each value of the closure up to its own dimension
    child_shares : (e : ℕ) (a : A) → e ≤ i → slice_get u e ≡ Some (Some a)
        → slice_get (with_value p i v) e ≡ Some (Some a)
    child_shares e a h k =
        let f : (w : Cell A) × (closure eq rows (with_value p i v) ≡ Some w) × (upto w i ≡ with_value p i v)
        = led_from law (closure eq rows (with_value p i v)) i (with_value p i v) ((child-is p i v d l).0 node) in
        let above : leq eq u f.0 ≡ true
        = closure_mono law rows p (with_value p i v) u f.0 (leq-with_value law p i v d) is f.1 in
        let one : leq eq (one_value e a) f.0 ≡ true
        = leq_trans law (one_value e a) u f.0 ((one_value-leq law e a u).1 k) above in
        let short : cell_prefix (suc i) (one_value e a) ≡ one_value e a
        = cell_prefix-beyond (suc i) (one_value e a) (omega (arith, depth-one_value e a)) in
        (one_value-leq law e a (with_value p i v)).0 (ap₂ (λ x y. leq eq x y) (sym short) (sym f.2)
        ∙ cell_prefix_mono law (suc i) (one_value e a) f.0 one)

    module _ (cmp : A → A → Ordering) where
      pub child_before : length u ≡ length p → i ≤ next_value cmp (depth p) u
      child_before long = elim (le_or i (next_value cmp (depth p) u)) [ inl h ↦ h | inr h ↦ go h ]
        where
          go : next_value cmp (depth p) u ≤ i → i ≤ next_value cmp (depth p) u
          go h = elim (first_of_range i (next_value cmp (depth p) u) h) [
            | inl e ↦ omega (arith, e)
            | inr k ↦ absurd (not_before (omega (arith, k)))
          ]
            where
              not_before : next_value cmp (depth p) u < i → ⊥
              not_before k =
                  let a : (a : A) × (slice_get u (next_value cmp (depth p) u) ≡ Some (Some a))
                  = next-entry cmp (depth p) u (omega (arith, long)) in
                  let value : slice_get (with_value p i v) (next_value cmp (depth p) u) ≡ Some (Some a.0)
                  = child_shares (next_value cmp (depth p) u) a.0 h a.1 in
                  let any : slice_get (with_value p i v) (next_value cmp (depth p) u) ≡ Some None
                  = with_value-other p i v (next_value cmp (depth p) u) k
                  ∙ any_after p (next_value cmp (depth p) u) (next-ge cmp (depth p) u) (omega arith) in
                  cc

    -- there it is the one child
    pub child_alone : (a : A) → slice_get u i ≡ Some (Some a) → v ≡ a
    child_alone a k = let value : slice_get (with_value p i v) i ≡ Some (Some a) = child_shares i a (omega arith) k in
        let own : slice_get (with_value p i v) i ≡ Some (Some v) = with_value-there p i v l in cc
