-- Coded rows have as many classes, nodes and edges of both kinds as the rows.
use Rattle.std.proofs.Common.{◌≡◌, ℕ, ◌-◌, ◌==◌, Bool, true, false, cond, not, Some, None, List, map, filter, length, slice_get, refl, sym}
use Rattle.std.proofs.Common.{ap, subst, ◌∙◌, ◌+◌, arith, sum}
use Rattle.std.specs.declared.cmp.Ordering.{Ordering}
use Rattle.std.specs.Ordering.{eq_by_cmp}
use Rattle.std.specs.Cmp.{IsTotalOrder}
use Rattle.std.specs.FinMap.{IsAntisymmetric}
use Rattle.std.specs.List.{count_by, sum_by}
use Rattle.std.specs.Option.{option_map, option_eq}
use Rattle.cube_defs.specs.Cell.{Cell, depth, cell_prefix, with_value, cell_eq}
use Rattle.cube_defs.specs.Rows.{Row, is_node, is_class}
use Rattle.cube_defs.specs.Tree.{Edge, Node, node_of, next_value, tree, tree_edges, links, classes, nodes, covered, parent_cell_of}
use Rattle.cube_laws.specs.Lists.{Among}
use Rattle.cube_laws.specs.Recoding.{coded_cell, coded_row, TellsApart, AreKnown, RowsAreKnown}
use Rattle.cube_laws.proofs.CallerLemmas.{among_map, map_among, filter_among, IsEquality, node_closed, equality_by, coded-apart}
use Rattle.cube_laws.proofs.CallerLemmas.{option_eq-coded, known-cell_prefix, known-covered, classes-coded, nodes-coded}
use Rattle.tree_laws.specs.Counts.{is_parent_of}
use Rattle.tree_laws.specs.Edges.{coded_edge, IsCodedNode}
use Rattle.tree_laws.specs.Labels.{target_of_label, IsLabel, record_of}
use Rattle.tree_laws.proofs.Lists.{some_same}
use Rattle.tree_laws.proofs.Prefixes.{with_value-there}
use Rattle.tree_laws.proofs.Sums.{sum_same, once_filter, once_map, covered_once, sum_ones, sum_alike, sum_by-map, or_nothing}
use Rattle.tree_laws.proofs.Sums.{sum_by-filter_map}
use Rattle.tree_laws.proofs.EdgesRise.{rising_edges_once}
use Rattle.tree_laws.proofs.Records.{record_rises, record_closure, record_edges}
use Rattle.tree_laws.proofs.Recoded.{record-coded, parent-coded, known-label, known-target, with_value-coded}

module _ {A B : Type 0} {cmp : A → A → Ordering} {cmp' : B → B → Ordering} (total : IsTotalOrder cmp)
    (anti : IsAntisymmetric cmp) (total' : IsTotalOrder cmp') (anti' : IsAntisymmetric cmp') {known : ℕ → A
    → Bool} {codes : ℕ → A → B} (tells : TellsApart known codes) (rows : List (Row A))
    (h : RowsAreKnown known rows) where
  law : IsEquality (eq_by_cmp cmp)
  law = equality_by total anti

  law' : IsEquality (eq_by_cmp cmp')
  law' = equality_by total' anti'

  -- a sum over some covered cells is one over their codes
  sum_coded : (p : Cell A → Bool) (p' : Cell B → Bool)
      → ((d : Cell B) → Among d (filter p' (covered cmp' (map (coded_row codes) rows))) → (c : Cell A)
      × Among c (filter p (covered cmp rows)) × (d ≡ coded_cell codes 0 c))
      → ((c : Cell A) → Among c (filter p (covered cmp rows))
      → Among (coded_cell codes 0 c) (filter p' (covered cmp' (map (coded_row codes) rows))))
      → (f : Cell B → ℕ) → sum_by f (filter p' (covered cmp' (map (coded_row codes) rows)))
      ≡ sum_by (λ c. f (coded_cell codes 0 c)) (filter p (covered cmp rows))
  sum_coded p p' from to f =
      sum_same f (filter p' (covered cmp' (map (coded_row codes) rows)))
      (map (coded_cell codes 0) (filter p (covered cmp rows)))
      (once_filter p' (covered cmp' (map (coded_row codes) rows))
      (covered_once total' anti' (map (coded_row codes) rows)))
      (once_map (coded_cell codes 0) (filter p (covered cmp rows))
      (λ c d m k e. coded-apart law law' tells c d (cell_known c m) (cell_known d k) e)
      (once_filter p (covered cmp rows) (covered_once total anti rows)))
      (λ d m. let r = from d m in
      subst (λ x. Among x (map (coded_cell codes 0) (filter p (covered cmp rows)))) (sym r.2)
      (map_among (coded_cell codes 0) r.0 (filter p (covered cmp rows)) r.1))
      (λ d m. let r : (c : Cell A) × Among c (filter p (covered cmp rows)) × (d ≡ coded_cell codes 0 c)
      = among_map (coded_cell codes 0) d (filter p (covered cmp rows)) m in
      subst (λ x. Among x (filter p' (covered cmp' (map (coded_row codes) rows)))) (sym r.2) (to r.0 r.1))
      ∙ sum_by-map f (coded_cell codes 0) (filter p (covered cmp rows))
    where
      cell_known : (c : Cell A) → Among c (filter p (covered cmp rows)) → AreKnown known 0 c
      cell_known c m = known-covered total anti total' anti' tells rows h c (filter_among p c (covered cmp rows) m).0

  sum_classes : (f : Cell B → ℕ)
      → sum_by f (classes cmp' (map (coded_row codes) rows)) ≡ sum_by (λ c. f (coded_cell codes 0 c)) (classes cmp rows)
  sum_classes = sum_coded (is_class (eq_by_cmp cmp) rows) (is_class (eq_by_cmp cmp') (map (coded_row codes) rows))
      (λ d m. (classes-coded total anti total' anti' tells rows h d).0 m)
      (λ c m. (classes-coded total anti total' anti' tells rows h (coded_cell codes 0 c)).1 (c, m, refl))

  sum_nodes : (f : Cell B → ℕ)
      → sum_by f (nodes cmp' (map (coded_row codes) rows)) ≡ sum_by (λ c. f (coded_cell codes 0 c)) (nodes cmp rows)
  sum_nodes = sum_coded (is_node (eq_by_cmp cmp) rows) (is_node (eq_by_cmp cmp') (map (coded_row codes) rows))
      (λ d m. (nodes-coded total anti total' anti' tells rows h d).0 m)
      (λ c m. (nodes-coded total anti total' anti' tells rows h (coded_cell codes 0 c)).1 (c, m, refl))

  pub classes_as_many : length (classes cmp' (map (coded_row codes) rows)) ≡ length (classes cmp rows)
  classes_as_many = sym (sum_ones (classes cmp' (map (coded_row codes) rows))) ∙ sum_classes (λ d. 1)
      ∙ sum_ones (classes cmp rows)

  pub nodes_as_many : length (nodes cmp' (map (coded_row codes) rows)) ≡ length (nodes cmp rows)
  nodes_as_many = sym (sum_ones (nodes cmp' (map (coded_row codes) rows))) ∙ sum_nodes (λ d. 1)
      ∙ sum_ones (nodes cmp rows)

  under-coded : (p t : Cell A) → AreKnown known 0 p → AreKnown known 0 t
      → is_parent_of cmp' (coded_cell codes 0 p) (Some (coded_cell codes 0 t)) ≡ is_parent_of cmp p (Some t)
  under-coded p t kp kt =
      ap (λ o. option_eq (cell_eq (eq_by_cmp cmp')) o (Some (coded_cell codes 0 p)))
      (parent-coded total anti total' anti' tells rows h t)
      ∙ option_eq-coded law law' tells (parent_cell_of cmp t) p (cut (depth t == 0)) kp
    where
      cut : (b : Bool) (w : Cell A) → cond b None (Some (cell_prefix (depth t - 1) t)) ≡ Some w → AreKnown known 0 w
      cut true w e = cc
      cut false w e = subst (AreKnown known 0) (some_same e) (known-cell_prefix known (depth t - 1) 0 t kt)

  -- the edges of a record that pass a test of whether they lead to a child
  weight : {X : Type 0} → (X → X → Ordering) → (Bool → Bool) → Node X (Cell X) → ℕ
  weight order test n = count_by (λ x. test (is_parent_of order n.cell (Some x.target))) n.edges

  module _ (test : Bool → Bool) (p : Cell A) (kp : AreKnown known 0 p) (n : Node A (Cell A))
      (node : is_node (eq_by_cmp cmp) rows p ≡ true) (is : node_of cmp 0 rows p ≡ Some n) where
    label : (x : Edge A (Cell A)) → Among x n.edges
        → IsLabel cmp rows p (next_value cmp (depth p) (record_closure total anti 0 rows p n is).0) x
    label x m = (record_edges total anti 0 rows p n node is (record_closure total anti 0 rows p n is).0 x
        (record_closure total anti 0 rows p n is).1).0 m

    -- edges with one code are the same
    edge_apart : (x z : Edge A (Cell A)) → Among x n.edges → Among z n.edges
        → coded_edge codes x ≡ coded_edge codes z → x ≡ z
    edge_apart x z m k e =
        let a = label x m in
        let b = label z k in
        let dim : x.dim ≡ z.dim = ap (λ y. y.dim) e in
        let target : x.target ≡ z.target
        = coded-apart law law' tells x.target z.target
        (known-target total anti total' anti' tells rows h p x.dim x.value x.target a.leads)
        (known-target total anti total' anti' tells rows h p z.dim z.value z.target b.leads)
        (ap (λ y. y.target) e) in
        let target_after_row : target_of_label (eq_by_cmp cmp) rows p x.dim z.value ≡ Some z.target
        = ap (λ i. target_of_label (eq_by_cmp cmp) rows p i z.value) dim ∙ b.leads in
        let cells : with_value p x.dim x.value ≡ with_value p x.dim z.value
        = coded-apart law law' tells (with_value p x.dim x.value) (with_value p x.dim z.value)
        (known-label total anti total' anti' tells rows h p x.dim x.value x.target a.leads)
        (known-label total anti total' anti' tells rows h p x.dim z.value z.target target_after_row)
        (sym (with_value-coded codes 0 p x.dim x.dim x.value (at_zero x.dim))
        ∙ ap (with_value (coded_cell codes 0 p) x.dim) (ap (λ y. y.value) e ∙ ap (λ i. codes i z.value) (sym dim))
        ∙ with_value-coded codes 0 p x.dim x.dim z.value (at_zero x.dim)) in
        let value : x.value ≡ z.value
        = some_same (some_same (sym (with_value-there p x.dim x.value a.place.within)
        ∙ ap (λ c. slice_get c x.dim) cells ∙ with_value-there p x.dim z.value a.place.within)) in
        λ i. record { dim = dim i; value = value i; target = target i }
      where
        at_zero : (i : ℕ) → i ≡ 0 + i
        at_zero i = omega arith

    module _ (m : Node B (Cell B)) (there : node_of cmp' 0 (map (coded_row codes) rows) (coded_cell codes 0 p) ≡ Some m)
        (c : IsCodedNode codes n m) (cell : n.cell ≡ p) where
      weighed : Edge B (Cell B) → ℕ
      weighed y = cond (test (is_parent_of cmp' m.cell (Some y.target))) 1 0

      weight-coded : weight cmp' test m ≡ weight cmp test n
      unfolding weight weighed
      weight-coded =
          sum_same weighed m.edges (map (coded_edge codes) n.edges)
          (rising_edges_once total' m.edges
          (record_rises total' anti' 0 (map (coded_row codes) rows) (coded_cell codes 0 p) m there))
          (once_map (coded_edge codes) n.edges edge_apart
          (rising_edges_once total n.edges (record_rises total anti 0 rows p n is)))
          (λ y k. let r = (c.edges y).0 k in
          subst (λ z. Among z (map (coded_edge codes) n.edges)) (sym r.2)
          (map_among (coded_edge codes) r.0 n.edges r.1))
          (λ y k. let r : (x : Edge A (Cell A)) × Among x n.edges × (y ≡ coded_edge codes x)
          = among_map (coded_edge codes) y n.edges k in (c.edges y).1 (r.0, r.1, r.2))
          ∙ sum_by-map weighed (coded_edge codes) n.edges
          ∙ sum_alike (λ x. weighed (coded_edge codes x))
          (λ x. cond (test (is_parent_of cmp n.cell (Some x.target))) 1 0) n.edges (λ x k.
          ap (λ b. cond (test b) 1 0)
          (ap (λ d. is_parent_of cmp' d (Some (coded_cell codes 0 x.target))) c.cell
          ∙ under-coded n.cell x.target (subst (AreKnown known 0) (sym cell) kp)
          (known-target total anti total' anti' tells rows h p x.dim x.value x.target (label x k).leads)))

  record_weight : (test : Bool → Bool) (p : Cell A) → Among p (nodes cmp rows)
      → or_nothing (weight cmp' test) (node_of cmp' 0 (map (coded_row codes) rows) (coded_cell codes 0 p))
      ≡ or_nothing (weight cmp test) (node_of cmp 0 rows p)
  record_weight test p m = let u = node_closed law rows p f.1 in
      by (record_of cmp 0 rows p u.0) (ap (option_map (λ u. record_of cmp 0 rows p u)) u.1) refl
    where
      f : Among p (covered cmp rows) × (is_node (eq_by_cmp cmp) rows p ≡ true)
      f = filter_among (is_node (eq_by_cmp cmp) rows) p (covered cmp rows) m

      kp : AreKnown known 0 p
      kp = known-covered total anti total' anti' tells rows h p f.0

      by : (n : Node A (Cell A)) → node_of cmp 0 rows p ≡ Some n → n.cell ≡ p
          → or_nothing (weight cmp' test) (node_of cmp' 0 (map (coded_row codes) rows) (coded_cell codes 0 p))
          ≡ or_nothing (weight cmp test) (node_of cmp 0 rows p)
      by n is cell =
          let r = record-coded total anti total' anti' tells rows h 0 p kp n f.1 is in
          ap (or_nothing (weight cmp' test)) r.1 ∙ weight-coded test p kp n f.1 is r.0 r.1 r.2 cell
          ∙ ap (or_nothing (weight cmp test)) (sym is)

  weight_sum : {X : Type 0} (order : X → X → Ordering) (test : Bool → Bool) (some : List (Row X))
      → sum (map (weight order test) (tree order 0 some))
      ≡ sum_by (λ c. or_nothing (weight order test) (node_of order 0 some c)) (nodes order some)
  weight_sum order test some = sum_by-map (λ x. x) (weight order test) (tree order 0 some)
      ∙ sum_by-filter_map (weight order test) (node_of order 0 some) (nodes order some)

  edges_as_many : (test : Bool → Bool) → sum (map (weight cmp' test) (tree cmp' 0 (map (coded_row codes) rows)))
      ≡ sum (map (weight cmp test) (tree cmp 0 rows))
  edges_as_many test =
      weight_sum cmp' test (map (coded_row codes) rows)
      ∙ sum_nodes (λ d. or_nothing (weight cmp' test) (node_of cmp' 0 (map (coded_row codes) rows) d))
      ∙ sum_alike _ (λ c. or_nothing (weight cmp test) (node_of cmp 0 rows c)) (nodes cmp rows) (record_weight test)
      ∙ sym (weight_sum cmp test rows)

  pub tree_edges_as_many : tree_edges cmp' (map (coded_row codes) rows) ≡ tree_edges cmp rows
  unfolding weight
  tree_edges_as_many = edges_as_many (λ b. b)

  pub links_as_many : links cmp' (map (coded_row codes) rows) ≡ links cmp rows
  unfolding weight
  links_as_many = edges_as_many not
