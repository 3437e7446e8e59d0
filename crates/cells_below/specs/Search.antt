-- Where a search for cells stands.
use Rattle.std.specs.Prelude.{◌≡◌, ℕ, ◌+◌, ◌<◌, ◌≤◌, List, length, slice_index_or, IsSome}
use Rattle.std.specs.FinMap as map
use Rattle.cube_defs.specs.Cell.{Cell}
use Rattle.cube_defs.specs.Tree.{Tree}
use Rattle.cell_core.specs.declared.cell.NodeNo.{NodeNo}
use Rattle.tree_search.specs.Found.{IsTreeOf, TreeRows}
use Rattle.cells_below.specs.Closed.{IsReached}
use Rattle.cells_below.specs.Numbers.{cell_of_number}
use Rattle.cells_below.specs.declared.search.CellSearch.{CellSearch}

-- the number of the node before dimension i
abbrev pub node_before : List NodeNo → ℕ → ℕ
node_before nodes i = (slice_index_or nodes i (record { 0 = 0 })).0

-- the search is for a cell that generalizes u. It goes on from each node that it knows: all searches for cells that begin as its
-- cell does reach that node
pub record IsOnWay (width : ℕ) (tree : Tree ℕ) (u : Cell ℕ) (search : CellSearch) : Type 0 where
  pub cell : search.cell ≡ cell_of_number u search.number
  pub long : length search.cell ≡ width
  pub few : search.known ≤ width + 1
  pub there : (i : ℕ) → i < search.known → IsSome (map.get tree (node_before search.nodes i))
  pub reached : (source : TreeRows) → IsTreeOf width tree source → (i : ℕ) → i < search.known
      → IsReached tree source search.cell (node_before search.nodes i) i
