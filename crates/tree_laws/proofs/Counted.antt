-- What is counted in a canonical tree is what the rows say.
use Rattle.std.proofs.Common.{◌≡◌, ℕ, Bool, true, false, cond, not, Option, Some, None, List, map, length, is_some, refl, sym, ap, subst}
use Rattle.std.proofs.Common.{◌∙◌, sum}
use Rattle.std.specs.declared.cmp.Ordering.{Ordering}
use Rattle.std.specs.Ordering.{eq_by_cmp}
use Rattle.std.specs.Cmp.{IsTotalOrder}
use Rattle.std.specs.FinMap as numbers
use Rattle.std.specs.List.{AllByRecursion, count_by, sum_by}
use Rattle.std.specs.Option.{option_map, option_eq}
use Rattle.std.proofs.lemmas.List.Sums.{length-filter}
use Rattle.std.proofs.lemmas.List.{length-map}
use Rattle.cube_defs.specs.Cell.{Cell, cell_eq, depth}
use Rattle.cube_defs.specs.Rows.{Row, closure, is_class, is_node, agg}
use Rattle.cube_defs.specs.Tree.{Edge, Node, Tree, IsCanonical, node_of, cell_at, renamed, renamed_edge, tree, tree_edges, links, classes}
use Rattle.cube_defs.specs.Tree.{nodes, covered}
use Rattle.cube_laws.specs.Lists.{Among}
use Rattle.cube_laws.proofs.CallerLemmas.{among_map, map_among, filter_filter, IsEquality, cell_prefix-depth, nodes-is, class_prefixes}
use Rattle.cube_laws.proofs.CallerLemmas.{equality_by}
use Rattle.tree_laws.specs.Labels.{record_of}
use Rattle.tree_laws.specs.Counts.{is_parent_of, classes_in, tree_edges_in, links_in}
use Rattle.tree_laws.proofs.Lists.{some_same}
use Rattle.tree_laws.proofs.Sums.{EachOnce, sum_same, once_filter, sum_ones, sum_alike, sum_by-map, covered_once, or_nothing}
use Rattle.tree_laws.proofs.Sums.{sum_by-filter_map}
use Rattle.tree_laws.proofs.Entries.{entry_get, get_entry, entries_once}

module _ {A : Type 0} {cmp : A → A → Ordering} (total : IsTotalOrder cmp) (anti : numbers.IsAntisymmetric cmp)
    (dims measures : ℕ) (rows : List (Row A)) (wide : AllByRecursion (λ row. length row.tuple ≡ dims) rows)
    (kept : Tree A) (canonical : IsCanonical cmp measures rows kept) where
  law : IsEquality (eq_by_cmp cmp)
  law = equality_by total anti

  cells : List (Cell A)
  cells = map (λ e. e.1.cell) (numbers.entries kept)

  cell_once : EachOnce cells
  unfolding cells
  cell_once = entries_once kept (λ n. n.cell)
      (λ k l n m g h e. canonical.once k l m.cell (ap (option_map (λ x. x.cell)) g ∙ ap (λ x. Some x) e)
      (ap (option_map (λ x. x.cell)) h))

  node_once : EachOnce (nodes cmp rows)
  node_once = once_filter (is_node (eq_by_cmp cmp) rows) (covered cmp rows) (covered_once total anti rows)

  to_nodes : (c : Cell A) → Among c cells → Among c (nodes cmp rows)
  unfolding cells
  to_nodes c m =
      let e : (e : ℕ × Node A ℕ) × Among e (numbers.entries kept) × (c ≡ e.1.cell)
      = among_map (λ (e : ℕ × Node A ℕ). e.1.cell) c (numbers.entries kept) m in
      (nodes-is total anti dims rows wide c).1
      (subst (λ x. is_node (eq_by_cmp cmp) rows x ≡ true) (sym e.2)
      (canonical.each e.0.0 e.0.1 (entry_get kept e.0 e.1)).0)

  from_nodes : (c : Cell A) → Among c (nodes cmp rows) → Among c cells
  unfolding cells
  from_nodes c m =
      let r : (k : ℕ) × (cell_at kept k ≡ Some c) = canonical.all c ((nodes-is total anti dims rows wide c).0 m) in
      go r.0 (numbers.get kept r.0) refl r.1
    where
      go : (k : ℕ) (o : Option (Node A ℕ)) → numbers.get kept k ≡ o → option_map (λ n. n.cell) o ≡ Some c
          → Among c (map (λ e. e.1.cell) (numbers.entries kept))
      go k None g h = cc
      go k (Some n) g h = subst (λ x. Among x (map (λ e. e.1.cell) (numbers.entries kept))) (some_same h)
          (map_among (λ (e : ℕ × Node A ℕ). e.1.cell) (k, n) (numbers.entries kept) (get_entry kept k n g))

  -- a sum over the records of the map by their cells is one over the nodes
  sum_records : (f : Cell A → ℕ) (g : Node A ℕ → ℕ)
      → ((k : ℕ) (n : Node A ℕ) → numbers.get kept k ≡ Some n → g n ≡ f n.cell)
      → sum_by g (numbers.values kept) ≡ sum_by f (nodes cmp rows)
  unfolding cells
  sum_records f g h =
      sum_by-map g (λ (e : ℕ × Node A ℕ). e.1) (numbers.entries kept)
      ∙ sum_alike (λ (e : ℕ × Node A ℕ). g e.1) (λ e. f e.1.cell) (numbers.entries kept)
      (λ e m. h e.0 e.1 (entry_get kept e m))
      ∙ sym (sum_by-map f (λ (e : ℕ × Node A ℕ). e.1.cell) (numbers.entries kept))
      ∙ sum_same f cells (nodes cmp rows) cell_once node_once to_nodes from_nodes

  pub nodes_counted : numbers.len kept ≡ length (nodes cmp rows)
  nodes_counted =
      numbers.len-entries kept ∙ sym (length-map (numbers.entries kept) (λ e. e.1))
      ∙ sym (sum_ones (numbers.values kept))
      ∙ sum_records (λ c. 1) (λ n. 1) (λ k n g. refl) ∙ sum_ones (nodes cmp rows)

  -- a record is marked where its cell is a class
  marked : (k : ℕ) (n : Node A ℕ) → numbers.get kept k ≡ Some n → is_some n.class ≡ is_class (eq_by_cmp cmp) rows n.cell
  marked k n g = go (closure (eq_by_cmp cmp) rows n.cell) refl (canonical.each k n g).1
    where
      go : (o : Option (Cell A)) → closure (eq_by_cmp cmp) rows n.cell ≡ o
          → Some (renamed (cell_at kept) n) ≡ option_map (renamed (λ c. Some c))
          (option_map (λ u. record_of cmp measures rows n.cell u) o)
          → is_some n.class ≡ is_class (eq_by_cmp cmp) rows n.cell
      go None e r = cc
      go (Some u) e r =
          ap (λ x. is_some x.class) (some_same r)
          ∙ by (cell_eq (eq_by_cmp cmp) u n.cell) (agg (eq_by_cmp cmp) measures rows n.cell)
          ∙ sym (ap (λ o. option_eq (cell_eq (eq_by_cmp cmp)) o (Some n.cell)) e)
        where
          by : {X : Type 0} (b : Bool) (x : X) → is_some (cond b (Some x) None) ≡ b
          by true x = refl
          by false x = refl

  pub classes_counted : classes_in cmp kept ≡ length (classes cmp rows)
  classes_counted =
      sum_records (λ c. cond (is_class (eq_by_cmp cmp) rows c) 1 0) (λ n. cond (is_some n.class) 1 0)
      (λ k n g. ap (λ b. cond b 1 0) (marked k n g))
      ∙ sym (length-filter (is_class (eq_by_cmp cmp) rows) (nodes cmp rows))
      ∙ ap length (filter_filter (is_class (eq_by_cmp cmp) rows) (is_node (eq_by_cmp cmp) rows) (covered cmp rows)
      (λ u h. subst (λ x. is_node (eq_by_cmp cmp) rows x ≡ true) (cell_prefix-depth u)
      (class_prefixes law rows (depth u) u h)))

  -- how many edges of a record pass a test of its cell and the target's
  passing : {T : Type 0} → (Cell A → Option (Cell A) → Bool) → (T → Option (Cell A)) → Node A T → ℕ
  passing test at n = count_by (λ x. test n.cell (at x.target)) n.edges

  passing-renamed : {T : Type 0} (test : Cell A → Option (Cell A) → Bool) (at : T → Option (Cell A)) (n : Node A T)
      → passing test at n ≡ passing test (λ c. c) (renamed at n)
  unfolding passing
  passing-renamed test at n
      = sym (sum_by-map (λ (x : Edge A (Option (Cell A))). cond (test n.cell x.target) 1 0) (renamed_edge at) n.edges)

  same_edges : (test : Cell A → Option (Cell A) → Bool) (p : Cell A)
      → or_nothing (passing test (λ c. Some c)) (node_of cmp measures rows p) ≡ or_nothing (passing test (λ c. Some c))
      (node_of cmp 0 rows p)
  unfolding passing
  same_edges test p = go (closure (eq_by_cmp cmp) rows p)
    where
      go : (o : Option (Cell A))
          → or_nothing (passing test (λ c. Some c)) (option_map (λ u. record_of cmp measures rows p u) o)
          ≡ or_nothing (passing test (λ c. Some c)) (option_map (λ u. record_of cmp 0 rows p u) o)
      go None = refl
      go (Some u) = refl

  counted : (test : Cell A → Option (Cell A) → Bool)
      → sum (map (passing test (cell_at kept)) (numbers.values kept))
      ≡ sum (map (passing test (λ c. Some c)) (tree cmp 0 rows))
  counted test =
      sum_by-map (λ x. x) (passing test (cell_at kept)) (numbers.values kept)
      ∙ sum_records (λ c. or_nothing (passing test (λ c. Some c)) (node_of cmp 0 rows c))
      (passing test (cell_at kept)) at_record
      ∙ sym (sum_by-filter_map (passing test (λ c. Some c)) (node_of cmp 0 rows) (nodes cmp rows))
      ∙ sym (sum_by-map (λ x. x) (passing test (λ c. Some c)) (tree cmp 0 rows))
    where
      at_record : (k : ℕ) (n : Node A ℕ) → numbers.get kept k ≡ Some n
          → passing test (cell_at kept) n ≡ or_nothing (passing test (λ c. Some c)) (node_of cmp 0 rows n.cell)
      at_record k n g = go (node_of cmp measures rows n.cell) refl (canonical.each k n g).1
        where
          go : (o : Option (Node A (Cell A))) → node_of cmp measures rows n.cell ≡ o
              → Some (renamed (cell_at kept) n) ≡ option_map (renamed (λ c. Some c)) o
              → passing test (cell_at kept) n ≡ or_nothing (passing test (λ c. Some c)) (node_of cmp 0 rows n.cell)
          go None e r = cc
          go (Some y) e r =
              passing-renamed test (cell_at kept) n ∙ ap (passing test (λ c. c)) (some_same r)
              ∙ sym (passing-renamed test (λ c. Some c) y)
              ∙ ap (or_nothing (passing test (λ c. Some c))) (sym e) ∙ same_edges test n.cell

  pub tree_edges_counted : tree_edges_in cmp kept ≡ tree_edges cmp rows
  unfolding passing
  tree_edges_counted = counted (is_parent_of cmp)

  pub links_counted : links_in cmp kept ≡ links cmp rows
  unfolding passing
  links_counted = counted (λ p c. not (is_parent_of cmp p c))
