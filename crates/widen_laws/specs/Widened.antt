-- Rows that all got the same value in a new last dimension, and the records of their nodes.
use Rattle.std.specs.Prelude.{◌≡◌, ◌⊎◌, ℕ, true, false, List, [], ◌∷◌, ◌++◌, Some, None, map, is_some, if◌then◌else◌}
use Rattle.std.specs.FinMap as maps
use Rattle.std.specs.Option.{option_map}
use Rattle.cube_defs.specs.Cell.{Cell}
use Rattle.cube_defs.specs.Rows.{Row}
use Rattle.cube_defs.specs.Tree.{Edge, Node, Tree, renamed_edge}

module _ {A : Type 0} where
  -- a row with one value more, and some rows with it
  abbrev pub longer : A → Row A → Row A
  longer v row = record row { tuple = row.tuple ++ v ∷ [] }

  abbrev pub all_longer : A → List (Row A) → List (Row A)
  all_longer v rows = map (longer v) rows

  -- a cell with Any in the new dimension, and with the value
  abbrev pub and_any : Cell A → Cell A
  and_any c = c ++ None ∷ []

  abbrev pub and_value : A → Cell A → Cell A
  and_value v c = c ++ Some v ∷ []

  -- the record with Any in the new dimension
  abbrev pub with_any : Node A (Cell A) → Node A (Cell A)
  with_any n = record {
    cell = and_any n.cell;
    parent = option_map and_any n.parent;
    class = n.class;
    forced = option_map (renamed_edge and_any) n.forced;
    edges = map (renamed_edge and_any) n.edges;
  }

  -- the edge to the node with the value
  abbrev pub edge_to_value : ℕ → A → Cell A → Edge A (Cell A)
  edge_to_value dim v c = record { dim = dim; value = v; target = and_value v c }

  -- the record of a class's node: its child has the class, and is forced
  abbrev pub with_forced_value : ℕ → A → Node A (Cell A) → Node A (Cell A)
  with_forced_value dim v n = record (with_any n) {
    class = None;
    forced = Some (edge_to_value dim v n.cell);
    edges = map (renamed_edge and_any) n.edges ++ edge_to_value dim v n.cell ∷ [];
  }

  -- the record of the child
  abbrev pub child_of : A → Node A (Cell A) → Node A (Cell A)
  child_of v n = record {
    cell = and_value v n.cell;
    parent = Some (and_any n.cell);
    class = n.class;
    forced
        = None;
    edges = [];
  }

  -- the record with Any in the new dimension of a node, whether it is a class's or not
  abbrev pub widened : ℕ → A → Node A (Cell A) → Node A (Cell A)
  widened dim v n = if is_some n.class then with_forced_value dim v n else with_any n

  -- the records by numbers: with Any in the new dimension, of a class, and of its child
  abbrev pub with_any_by_number : Node A ℕ → Node A ℕ
  with_any_by_number n = record n { cell = and_any n.cell }

  abbrev pub with_forced_value_by_number : ℕ → A → ℕ → Node A ℕ → Node A ℕ
  with_forced_value_by_number dim v child n = record n {
    cell = and_any n.cell;
    class = None;
    forced = Some (record { dim = dim; value = v; target = child });
    edges = n.edges ++ record { dim = dim; value = v; target = child } ∷ [];
  }

  abbrev pub child_by_number : A → ℕ → Node A ℕ → Node A ℕ
  child_by_number v parent n = record {
    cell = and_value v n.cell;
    parent = Some parent;
    class = n.class;
    forced
        = None;
    edges = [];
  }

  -- each node keeps its number, and each class has a child under a number of its own
  pub record IsWidened (dim : ℕ) (v : A) (child : ℕ → ℕ) (tree wide : Tree A) : Type 0 where
    pub others : (k : ℕ) (n : Node A ℕ) → maps.get tree k ≡ Some n → is_some n.class ≡ false
        → maps.get wide k ≡ Some (with_any_by_number n)
    pub classes : (k : ℕ) (n : Node A ℕ) → maps.get tree k ≡ Some n → is_some n.class ≡ true
        → maps.get wide k ≡ Some (with_forced_value_by_number dim v (child k) n)
    pub children : (k : ℕ) (n : Node A ℕ) → maps.get tree k ≡ Some n → is_some n.class ≡ true
        → maps.get wide (child k) ≡ Some (child_by_number v k n)
    pub only : (q : ℕ) (m : Node A ℕ) → maps.get wide q ≡ Some m
        → ((n : Node A ℕ) × (maps.get tree q ≡ Some n))
        ⊎ ((k : ℕ) × (n : Node A ℕ) × (maps.get tree k ≡ Some n) × (is_some n.class ≡ true) × (q ≡ child k))
