-- The laws of labels, said of the records of nodes.
use Rattle.std.proofs.Common.{◌≡◌, ◌↔◌, ℕ, true, false, Option, Some, None, List, refl, sym, ap, subst}
use Rattle.std.specs.List.Sorted.{IsStrictlySortedBy}
use Rattle.std.specs.declared.cmp.Ordering.{Ordering}
use Rattle.std.specs.Ordering.{eq_by_cmp}
use Rattle.std.specs.Cmp.{IsTotalOrder}
use Rattle.std.specs.FinMap.{IsAntisymmetric}
use Rattle.std.specs.Option.{option_map}
use Rattle.cube_defs.specs.Cell.{Cell, depth}
use Rattle.cube_defs.specs.Rows.{Row, covers, closure, is_node}
use Rattle.cube_defs.specs.Tree.{Edge, Node, node_of, next_value}
use Rattle.cube_laws.specs.Lists.{Among}
use Rattle.cube_laws.proofs.CallerLemmas.{prefix_of_class, equality_by}
use Rattle.tree_laws.specs.Labels.{IsLabel, record_of}
use Rattle.tree_laws.specs.Edges.{edge_cmp}
use Rattle.tree_laws.proofs.EdgesRise.{edges_rise}
use Rattle.tree_laws.proofs.Edges.{edges-are}
use Rattle.tree_laws.proofs.Children.{lead_node}
use Rattle.tree_laws.proofs.Apart.{lead_apart}

module _ {A : Type 0} {cmp : A → A → Ordering} (total : IsTotalOrder cmp) (anti : IsAntisymmetric cmp) (measures : ℕ)
    (rows : List (Row A)) (p : Cell A) (n : Node A (Cell A)) (is : node_of cmp measures rows p ≡ Some n) where
  -- a record, by the closure
  pub record_with : (u : Cell A) → closure (eq_by_cmp cmp) rows p ≡ Some u → n ≡ record_of cmp measures rows p u
  record_with u e = let made : node_of cmp measures rows p ≡ Some (record_of cmp measures rows p u)
      = ap (option_map (λ u. record_of cmp measures rows p u)) e in cc

  pub record_closure : (u : Cell A) × (closure (eq_by_cmp cmp) rows p ≡ Some u)
  record_closure = go (closure (eq_by_cmp cmp) rows p) refl
    where
      go : (o : Option (Cell A)) → closure (eq_by_cmp cmp) rows p ≡ o → (u : Cell A)
          × (closure (eq_by_cmp cmp) rows p ≡ Some u)
      go None e = let made : node_of cmp measures rows p ≡ None
          = ap (option_map (λ u. record_of cmp measures rows p u)) e in cc
      go (Some u) e = (u, e)

  pub record_rises : IsStrictlySortedBy (edge_cmp cmp) n.edges
  unfolding IsStrictlySortedBy
  record_rises = subst (λ m. IsStrictlySortedBy (edge_cmp cmp) m.edges)
      (sym (record_with record_closure.0 record_closure.1))
      (edges_rise total anti measures rows p record_closure.0 (next_value cmp (depth p) record_closure.0))

module _ {A : Type 0} {cmp : A → A → Ordering} (total : IsTotalOrder cmp) (anti : IsAntisymmetric cmp) (measures : ℕ)
    (rows : List (Row A)) (p : Cell A) (n : Node A (Cell A)) (node : is_node (eq_by_cmp cmp) rows p ≡ true)
    (is : node_of cmp measures rows p ≡ Some n) where
  closed : (u : Cell A) × (closure (eq_by_cmp cmp) rows p ≡ Some u)
  closed = record_closure total anti measures rows p n is

  pub record_edges : (u : Cell A) (x : Edge A (Cell A)) → closure (eq_by_cmp cmp) rows p ≡ Some u → Among x n.edges
      ↔ IsLabel cmp rows p (next_value cmp (depth p) u) x
  record_edges u x e =
      let are : Among x (record_of cmp measures rows p u).edges ↔ IsLabel cmp rows p (next_value cmp (depth p) u) x
      = edges-are total anti measures rows p u e (prefix_of_class (equality_by total anti) rows p u e node).1 x in
      subst (λ m. Among x m.edges ↔ IsLabel cmp rows p (next_value cmp (depth p) u) x)
      (sym (record_with total anti measures rows p n is u e)) are

  pub target_node : (x : Edge A (Cell A)) → Among x n.edges → is_node (eq_by_cmp cmp) rows x.target ≡ true
  target_node x m = lead_node (equality_by total anti) rows p x.dim x.value x.target
      ((record_edges closed.0 x closed.1).0 m).leads

  pub target_apart : (r : Row A) (x : Edge A (Cell A)) → covers (eq_by_cmp cmp) p r ≡ false → Among x n.edges
      → covers (eq_by_cmp cmp) x.target r ≡ false
  target_apart r x h m =
      let l : IsLabel cmp rows p (next_value cmp (depth p) closed.0) x = (record_edges closed.0 x closed.1).0 m in
      lead_apart cmp (equality_by total anti) measures rows r rows rows p x.dim x.value x.target l.place.behind
      l.place.within l.leads h
