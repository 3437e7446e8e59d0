-- The nodes of a tree that generalize a tuple.
use Rattle.std.specs.FinMap as map
use Rattle.std.specs.Prelude.{◌≡◌, ◌⊎◌, ℕ, ◌<◌, ◌≤◌, false, true, IsSome, Some, List, [], ◌∷◌, ◌++◌, length, nat_eq, slice_get}
use Rattle.std.specs.Prelude.{slice_index_or}
use Rattle.cell_core.specs.Entry.{IsCode}
use Rattle.cube_defs.specs.Cell.{Cell, depth, leq, with_value}
use Rattle.cube_defs.specs.Tree.{Tree, cell_at}
use Rattle.qc_arena.specs.Map.{Arena, is_open}
use Rattle.qc_arena.specs.RecordReaders.{record_at}
use Rattle.tree_search.specs.Found.{IsTree}
use Rattle.batch_delete.specs.declared.generalizing.NodeCell.{NodeCell}

-- stands for what a list has past its end
abbrev pub no_node_cell : NodeCell
no_node_cell = record { node = record { 0 = 0 }; cell = [] }

-- a tuple and the tree of some rows, which is as wide
pub record IsAsWide (a : Arena) (tuple : Cell ℕ) : Type 0 where
  pub tree : IsTree a.width a.now
  pub long : length tuple ≡ a.width

-- the node may have a child in dimension i
pub record CanHaveChild (a : Arena) (k i : ℕ) : Type 0 where
  pub tree : IsTree a.width a.now
  pub node : IsSome (map.get a.now k)
  pub behind : depth (record_at a.now k).cell ≤ i
  pub dim : i < a.width

-- the node at place j of the list may have a child with the code v in dimension i
pub record HasParent (a : Arena) (list : List NodeCell) (j i v : ℕ) : Type 0 where
  pub tree : IsTree a.width a.now
  pub place : j < length list
  pub cell : cell_at a.now (slice_index_or list j no_node_cell).node.0 ≡ Some (slice_index_or list j no_node_cell).cell
  pub behind : depth (slice_index_or list j no_node_cell).cell ≤ i
  pub dim : i < a.width
  pub code : IsCode v

-- each node of the list may; none stands after one that it generalizes
pub record AreParents (a : Arena) (list : List NodeCell) (i v : ℕ) : Type 0 where
  pub tree : IsTree a.width a.now
  pub cells : (k : ℕ) (b : NodeCell) → slice_get list k ≡ Some b → cell_at a.now b.node.0 ≡ Some b.cell
  pub short : (k : ℕ) (b : NodeCell) → slice_get list k ≡ Some b → depth b.cell ≤ i
  pub order : (j k : ℕ) (b c : NodeCell) → j < k → slice_get list j ≡ Some b → slice_get list k ≡ Some c
      → leq nat_eq c.cell b.cell ≡ false
  pub dim : i < a.width
  pub code : IsCode v

-- the nodes that generalize the tuple without a value from a dimension on; none stands after one that it generalizes
pub record AreGeneralizing (tree : Tree ℕ) (tuple : Cell ℕ) (dim : ℕ) (list : List NodeCell) : Type 0 where
  pub cells : (k : ℕ) (b : NodeCell) → slice_get list k ≡ Some b → cell_at tree b.node.0 ≡ Some b.cell
  pub below : (k : ℕ) (b : NodeCell) → slice_get list k ≡ Some b → leq nat_eq b.cell tuple ≡ true
  pub short : (k : ℕ) (b : NodeCell) → slice_get list k ≡ Some b → depth b.cell ≤ dim
  pub all : (q : ℕ) (c : Cell ℕ) → cell_at tree q ≡ Some c → leq nat_eq c tuple ≡ true → depth c ≤ dim → (k : ℕ)
      × (b : NodeCell) × (slice_get list k ≡ Some b) × (b.node.0 ≡ q)
  pub order : (j k : ℕ) (b c : NodeCell) → j < k → slice_get list j ≡ Some b → slice_get list k ≡ Some c
      → leq nat_eq c.cell b.cell ≡ false

-- in an open batch the nodes of the list may be touched
pub record CanTouchAll (a : Arena) (list : List NodeCell) : Type 0 where
  pub opened : is_open a ≡ true
  pub there : (k : ℕ) (b : NodeCell) → slice_get list k ≡ Some b → IsSome (map.get a.now b.node.0)

-- the list with the child of p with a value in a dimension, where that is a node
abbrev pub AddsChild : Tree ℕ → ℕ → ℕ → Cell ℕ → List NodeCell → List NodeCell → Type 0
AddsChild tree dim code p old new =
    (((q : ℕ) → cell_at tree q ≡ Some (with_value p dim code) → ⊥) × (new ≡ old))
    ⊎ ((b : NodeCell) × (new ≡ old ++ b ∷ []) × (b.cell ≡ with_value p dim code)
    × (cell_at tree b.node.0 ≡ Some b.cell))

-- the list with the children of the first k nodes of it
pub record AddsChildren (tree : Tree ℕ) (dim code : ℕ) (old : List NodeCell) (k : ℕ)
    (list : List NodeCell) : Type 0 where
  pub longer : length old ≤ length list
  pub kept : (j : ℕ) (b : NodeCell) → slice_get old j ≡ Some b → slice_get list j ≡ Some b
  pub fresh : (j : ℕ) (b : NodeCell) → length old ≤ j → slice_get list j ≡ Some b
      → (a : ℕ) × (p : NodeCell) × (a < k) × (slice_get old a ≡ Some p) × (b.cell ≡ with_value p.cell dim code)
      × (cell_at tree b.node.0 ≡ Some b.cell)
  pub apart : (i j : ℕ) (b c : NodeCell) → length old ≤ i → i < j → slice_get list i ≡ Some b
      → slice_get list j ≡ Some c → leq nat_eq c.cell b.cell ≡ false
  pub found : (a : ℕ) (p : NodeCell) (q : ℕ) → a < k → slice_get old a ≡ Some p
      → cell_at tree q ≡ Some (with_value p.cell dim code) → (j : ℕ) × (b : NodeCell) × (slice_get list j ≡ Some b)
      × (b.node.0 ≡ q)
