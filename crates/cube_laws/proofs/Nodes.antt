-- A node is the prefix of a class.
use Rattle.std.proofs.Common.{◌≡◌, ◌↔◌, ℕ, Bool, true, Option, Some, None, List, length, refl, sym, ap, subst, ◌∙◌}
use Rattle.std.specs.declared.cmp.Ordering.{Ordering}
use Rattle.std.specs.Ordering.{eq_by_cmp}
use Rattle.std.specs.Cmp.{IsTotalOrder}
use Rattle.std.specs.FinMap.{IsAntisymmetric}
use Rattle.std.specs.List.{AllByRecursion}
use Rattle.std.specs.Option.{option_map}
use Rattle.cube_defs.specs.Cell.{Cell, leq, depth, cell_prefix}
use Rattle.cube_defs.specs.Rows.{Row, covers, closure, is_class, is_node}
use Rattle.cube_defs.specs.Tree.{covered, nodes}
use Rattle.cube_laws.proofs.Cells.{IsEquality, leq_antisymm, cell_prefix-leq, cell_prefix_mono, cell_prefix-depth}
use Rattle.cube_laws.proofs.Cells.{cell_prefix-depth_cell_prefix, length-cell_prefix}
use Rattle.cube_laws.proofs.Closures.{leq-closure, closure_idem, closure_mono, closure_some, option_eq-is, is_class-is}
use Rattle.cube_laws.proofs.Covered.{covered-is, closure_length, some_covered}
use Rattle.cube_laws.specs.Lists.{Among}
use Rattle.cube_laws.proofs.Lists.{among_filter, filter_among, all_at}
use Rattle.cube_laws.proofs.Orders.{equality_by}

module _ {A : Type 0} {eq : A → A → Bool} (law : IsEquality eq) where
  -- a node is its closure's prefix
  pub is_node-is : (rows : List (Row A)) (p : Cell A) → (is_node eq rows p ≡ true)
      ↔ (option_map (cell_prefix (depth p)) (closure eq rows p) ≡ Some p)
  is_node-is rows p = option_eq-is law _ p

  -- the nodes are the prefixes of the classes
  pub prefix_of_class : (rows : List (Row A)) (p u : Cell A) → closure eq rows p ≡ Some u → is_node eq rows p ≡ true
      → (is_class eq rows u ≡ true) × (cell_prefix (depth p) u ≡ p)
  prefix_of_class rows p u e h =
      let f : Some (cell_prefix (depth p) u) ≡ Some p = ap (option_map (cell_prefix (depth p))) (sym e)
      ∙ (is_node-is rows p).0 h in
      ((is_class-is law rows u).1 (closure_idem law rows p u e), cc)

  pub class_prefixes : (rows : List (Row A)) (k : ℕ) (u : Cell A) → is_class eq rows u ≡ true
      → is_node eq rows (cell_prefix k u) ≡ true
  class_prefixes rows k u h = go (closure_some law rows (cell_prefix k u) u u (cell_prefix-leq law k u) is)
    where
      is : closure eq rows u ≡ Some u
      is = (is_class-is law rows u).0 h

      go : (w : Cell A) × (closure eq rows (cell_prefix k u) ≡ Some w) → is_node eq rows (cell_prefix k u) ≡ true
      go (w, e) =
          let low : leq eq (cell_prefix k u) (cell_prefix (depth (cell_prefix k u)) w) ≡ true
          = subst (λ x. leq eq x (cell_prefix (depth (cell_prefix k u)) w) ≡ true)
          (cell_prefix-depth (cell_prefix k u))
          (cell_prefix_mono law (depth (cell_prefix k u)) _ _ (leq-closure law rows (cell_prefix k u) w e)) in
          let high : leq eq (cell_prefix (depth (cell_prefix k u)) w) (cell_prefix k u) ≡ true =
          subst (λ x. leq eq (cell_prefix (depth (cell_prefix k u)) w) x ≡ true) (cell_prefix-depth_cell_prefix k u)
          (cell_prefix_mono law (depth (cell_prefix k u)) w u
          (closure_mono law rows (cell_prefix k u) u w u (cell_prefix-leq law k u) e is)) in
          (is_node-is rows (cell_prefix k u)).1 (ap (option_map (cell_prefix (depth (cell_prefix k u)))) e
          ∙ ap (λ x. Some x) (leq_antisymm law _ _ high low))

  -- a node has a closure, whose prefix it is
  pub node_closed : (rows : List (Row A)) (p : Cell A) → is_node eq rows p ≡ true → (u : Cell A)
      × (closure eq rows p ≡ Some u) × (cell_prefix (depth p) u ≡ p)
  node_closed rows p h = go (closure eq rows p) refl ((is_node-is rows p).0 h)
    where
      go : (o : Option (Cell A)) → closure eq rows p ≡ o
          → option_map (cell_prefix (depth p)) (closure eq rows p) ≡ Some p → (u : Cell A)
          × (closure eq rows p ≡ Some u) × (cell_prefix (depth p) u ≡ p)
      go None e f = let bad : None ≡ Some p = sym (ap (option_map (cell_prefix (depth p))) e) ∙ f in cc
      go (Some u) e f = let front : Some (cell_prefix (depth p) u) ≡ Some p
          = sym (ap (option_map (cell_prefix (depth p))) e) ∙ f in (u, e, cc)

  pub node-prefix : (rows : List (Row A)) (p : Cell A) → is_node eq rows p ≡ true → (u : Cell A)
      × (is_class eq rows u ≡ true) × (cell_prefix (depth p) u ≡ p)
  node-prefix rows p h = let u = node_closed rows p h in (u.0, (prefix_of_class rows p u.0 u.1 h).0, u.2)

module _ {A : Type 0} {cmp : A → A → Ordering} (total : IsTotalOrder cmp) (anti : IsAntisymmetric cmp) (n : ℕ) where
  -- each node stands in the list of nodes
  pub nodes-is : (rows : List (Row A)) → AllByRecursion (λ r. length r.tuple ≡ n) rows → (p : Cell A)
      → Among p (nodes cmp rows) ↔ (is_node (eq_by_cmp cmp) rows p ≡ true)
  nodes-is rows a p = (
    λ h. (filter_among (is_node (eq_by_cmp cmp) rows) p (covered cmp rows) h).1,
    λ h.
        let u = node_closed law rows p h in
        let c : (r : Row A) × Among r rows × (covers (eq_by_cmp cmp) p r ≡ true)
        = some_covered (eq_by_cmp cmp) n p u.0 rows u.1 in
        let long : length p ≡ n = sym (ap length u.2) ∙ length-cell_prefix (depth p) u.0
        ∙ closure_length (eq_by_cmp cmp) n p u.0 rows a u.1 in
        among_filter (is_node (eq_by_cmp cmp) rows) p (covered cmp rows)
        ((covered-is total anti rows p).1 (
          c.0,
          c.1,
          long
              ∙ sym (all_at (λ r. length r.tuple ≡ n) c.0 rows a c.1),
          c.2,
        )) h,
  )
    where
      law : IsEquality (eq_by_cmp cmp)
      law = equality_by total anti
