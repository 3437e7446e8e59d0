-- The way down to a node that is there.
use Rattle.std.specs.Prelude.{◌≡◌, ◌≤◌, ℕ, suc, Some, None, slice_index_or}
use Rattle.std.specs.Ordering.{eq_by_cmp, nat_cmp}
use Rattle.cube_defs.specs.Cell.{Cell, cell_prefix}
use Rattle.cube_defs.specs.Tree.{Tree, cell_at}
use Rattle.tree_laws.specs.Walk.{target_at}
use Rattle.qc_arena.specs.RecordReaders.{record_at}

-- the node's edge with this label leads to a node with the cell
pub record LeadsTo (tree : Tree ℕ) (node dim value : ℕ) (cell : Cell ℕ) : Type 0 where
  pub target : ℕ
  pub edge : target_at (eq_by_cmp nat_cmp) dim value (record_at tree node).edges ≡ Some target
  pub is : cell_at tree target ≡ Some cell

-- in each of these dimensions that has a value in t, t's prefix before it has an edge with the value to t's prefix with
-- it
pub record IsWay (tree : Tree ℕ) (t : Cell ℕ) (first last : ℕ) : Type 0 where
  pub leads : (dim value node : ℕ) → first ≤ dim → dim ≤ last → slice_index_or t dim None ≡ Some value
      → cell_at tree node ≡ Some (cell_prefix dim t) → LeadsTo tree node dim value (cell_prefix (suc dim) t)
