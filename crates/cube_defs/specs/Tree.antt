-- The records of the nodes, and the canonical tree. The words take the order of values first.
use Rattle.std.specs.Prelude.{◌≡◌, ℕ, ◌+◌, ◌-◌, ◌==◌, Bool, true, not, Option, Some, None, List, [], ◌∷◌, ◌++◌, map, drop, filter, flat_map}
use Rattle.std.specs.Prelude.{filter_map, slice_get, is_some, sum, length, if◌then◌else◌}
use Rattle.std.specs.declared.cmp.Ordering.{Ordering}
use Rattle.std.specs.Ordering.{nat_cmp, eq_by_cmp}
use Rattle.std.specs.declared.cmp.Ordering.TheVariants.{Less, Equal, Greater}
use Rattle.std.specs.List.{range_with_len, position_or_len, count_by}
use Rattle.std.specs.Option.{option_map, option_and_then, option_eq}
use Rattle.std.specs.FinMap as map
use Rattle.cube_defs.specs.Cell.{Cell, cell_of, depth, cell_prefix, upto, with_value, leq, cell_eq, cell_cmp}
use Rattle.cube_defs.specs.Rows.{Row, Agg, cov, closure, is_class, is_node, agg}

-- a list with one item more, at its place in the order, where the item is not in it
abbrev pub insert_sorted : {X : Type 0} → (X → X → Ordering) → X → List X → List X
insert_sorted cmp x [] = x ∷ []
insert_sorted cmp x (y ∷ ys) = let later = insert_sorted cmp x ys in
    elim (cmp x y) [ Less ↦ x ∷ y ∷ ys | Equal ↦ y ∷ ys | Greater ↦ y ∷ later ]

-- the items of a list in order, each once
abbrev pub distinct : {X : Type 0} → (X → X → Ordering) → List X → List X
distinct cmp [] = []
distinct cmp (x ∷ xs) = insert_sorted cmp x (distinct cmp xs)

-- a label of an edge: a dimension and a value; with T as cells or as numbers of nodes, where it leads
pub record Edge (A T : Type 0) : Type 0 where
  pub dim : ℕ
  pub value : A
  pub target : T

-- what is known of a node
pub record Node (A T : Type 0) : Type 0 where
  pub cell : Cell A
  pub parent : Option T
  pub class : Option Agg
  pub forced : Option (Edge A T)
  pub edges : List (Edge A T)

-- the cells that cover a tuple, in cell order
abbrev pub generalizations : {A : Type 0} → List A → List (Cell A)
generalizations [] = [] ∷ []
generalizations (v ∷ tuple)
    = map (λ c. None ∷ c) (generalizations tuple) ++ map (λ c. Some v ∷ c) (generalizations tuple)

module _ {A : Type 0} (cmp : A → A → Ordering) where
  -- all cells that cover some row, each once, in cell order
  abbrev pub covered : List (Row A) → List (Cell A)
  covered rows = distinct (cell_cmp cmp) (flat_map (λ row. generalizations row.tuple) rows)

  abbrev pub classes : List (Row A) → List (Cell A)
  classes rows = filter (is_class (eq_by_cmp cmp) rows) (covered rows)

  abbrev pub nodes : List (Row A) → List (Cell A)
  nodes rows = filter (is_node (eq_by_cmp cmp) rows) (covered rows)

  -- the values that the covered rows have in dimension i, in order
  abbrev pub values_at : List (Row A) → Cell A → ℕ → List A
  values_at rows p i = distinct cmp (filter_map (λ row. slice_get row.tuple i) (cov (eq_by_cmp cmp) rows p))

  -- the first dimension from n on in which u has a value, or the number of dimensions
  abbrev pub next_value : ℕ → Cell A → ℕ
  next_value n u = n + position_or_len is_some (drop n u)

  -- for each value that the covered rows have in dimension i, where it leads
  abbrev pub edges_in : List (Row A) → Cell A → ℕ → List (Edge A (Cell A))
  edges_in rows p i =
      filter_map (λ v. option_map (λ u. record { dim = i; value = v; target = upto u i })
      (closure (eq_by_cmp cmp) rows (with_value p i v)))
      (values_at rows p i)

  -- p with u's value in dimension e, where u has one there
  abbrev pub forced_child : Cell A → Cell A → ℕ → Option (Edge A (Cell A))
  forced_child p u e = option_and_then
      (λ entry. option_map (λ v. record { dim = e; value = v; target = with_value p e v }) entry) (slice_get u e)

  -- the one option's value, as a list
  abbrev pub as_list : {X : Type 0} → Option X → List X
  as_list None = []
  as_list (Some x) = x ∷ []

  -- a cell without its last value
  abbrev pub parent_cell_of : Cell A → Option (Cell A)
  parent_cell_of p = if depth p == 0 then None else Some (cell_prefix (depth p - 1) p)

  -- the record of the node p, whose closure is u, and next value after p's is in dimension e
  abbrev pub node_with : ℕ → List (Row A) → Cell A → Cell A → ℕ → Node A (Cell A)
  node_with measures rows p u e = record {
    cell = p;
    parent = parent_cell_of p;
    class = if cell_eq (eq_by_cmp cmp) u p then Some (agg (eq_by_cmp cmp) measures rows p) else None;
    forced = forced_child p u e;
    edges = flat_map (edges_in rows p) (range_with_len (depth p) (e - depth p)) ++ as_list (forced_child p u e);
  }

  abbrev pub node_of : ℕ → List (Row A) → Cell A → Option (Node A (Cell A))
  node_of measures rows p
      = option_map (λ u. node_with measures rows p u (next_value (depth p) u)) (closure (eq_by_cmp cmp) rows p)

  -- the records of all nodes, in cell order
  abbrev pub tree : ℕ → List (Row A) → List (Node A (Cell A))
  tree measures rows = filter_map (node_of measures rows) (nodes rows)

  -- whether an edge of p leads to a child of p
  abbrev pub is_tree_edge : Cell A → Edge A (Cell A) → Bool
  is_tree_edge p edge = option_eq (cell_eq (eq_by_cmp cmp)) (parent_cell_of edge.target) (Some p)

  abbrev pub tree_edges : List (Row A) → ℕ
  tree_edges rows = sum (map (λ n. count_by (is_tree_edge n.cell) n.edges) (tree 0 rows))

  abbrev pub links : List (Row A) → ℕ
  links rows = sum (map (λ n. count_by (λ edge. not (is_tree_edge n.cell edge)) n.edges) (tree 0 rows))

  -- the records of the nodes that are <= a tuple
  abbrev pub generalizing_nodes : List (Row A) → List A → List (Node A (Cell A))
  generalizing_nodes rows tuple = filter (λ n. leq (eq_by_cmp cmp) n.cell (cell_of tuple)) (tree 0 rows)

  abbrev pub generalizing_size : List (Row A) → List A → ℕ
  generalizing_size rows tuple
      = length (generalizing_nodes rows tuple) + sum (map (λ n. length n.edges) (generalizing_nodes rows tuple))

  -- how many nodes and edges generalize a tuple, in the trees of both lists of rows together
  abbrev pub affected_size : List (Row A) → List (Row A) → List A → ℕ
  affected_size rows more tuple = generalizing_size rows tuple + generalizing_size more tuple

module _ {A S T : Type 0} (name : S → T) where
  abbrev pub renamed_edge : Edge A S → Edge A T
  renamed_edge edge = record { dim = edge.dim; value = edge.value; target = name edge.target }

  -- the record with another name for each target
  abbrev pub renamed : Node A S → Node A T
  renamed n = record {
    cell = n.cell;
    parent = option_map name n.parent;
    class = n.class;
    forced = option_map renamed_edge n.forced;
    edges = map renamed_edge n.edges;
  }

-- the records by their numbers
abbrev pub Tree : Type 0 → Type 0
Tree A = map.FinMap nat_cmp (Node A ℕ)

-- the cell of the node with this number
abbrev pub cell_at : {A : Type 0} → Tree A → ℕ → Option (Cell A)
cell_at tree k = option_map (λ n. n.cell) (map.get tree k)

-- the map has each node of the rows once, with its record
pub record IsCanonical {A : Type 0} (cmp : A → A → Ordering) (measures : ℕ) (rows : List (Row A))
    (tree : Tree A) : Type 0 where
  pub each : (k : ℕ) (n : Node A ℕ) → map.get tree k ≡ Some n
      → (is_node (eq_by_cmp cmp) rows n.cell ≡ true)
      × (Some (renamed (cell_at tree) n) ≡ option_map (renamed (λ c. Some c)) (node_of cmp measures rows n.cell))
  pub once : (k l : ℕ) (c : Cell A) → cell_at tree k ≡ Some c → cell_at tree l ≡ Some c → k ≡ l
  pub all : (c : Cell A) → is_node (eq_by_cmp cmp) rows c ≡ true → (k : ℕ) × (cell_at tree k ≡ Some c)
