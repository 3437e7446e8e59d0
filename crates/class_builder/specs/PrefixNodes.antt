-- The nodes that are noted for rows, by dimensions.
use Rattle.std.specs.Prelude.{◌≡◌, ◌≢◌, ◌<◌, ◌≤◌, ◌+◌, ◌*◌, ℕ, suc, true, Some, None, IfSome, is_some, slice_index_or}
use Rattle.cube_defs.specs.Cell.{Cell, cell_of, cell_prefix}
use Rattle.cube_defs.specs.Tree.{cell_at}
use Rattle.base_table.specs.Places.{Places, row_at}
use Rattle.qc_arena.specs.Map.{Arena}
use Rattle.class_builder.specs.declared.prefix_nodes.PrefixNodes.{PrefixNodes}

-- stands where no node is noted
abbrev pub unset_node : ℕ
unset_node = 4294967295

-- the number of the node that is noted for a row in dimension d
abbrev pub prefix_node : PrefixNodes → ℕ → ℕ → ℕ
prefix_node fronts row d = (slice_index_or fronts.nodes.items (row * fronts.dims + d) (record { 0 = unset_node })).0

-- each node that is noted for a row of the table has the prefix, with the dimension, of the row's tuple
pub record ArePrefixNodes (t : Places) (a : Arena) (fronts : PrefixNodes) : Type 0 where
  pub dims : fronts.dims ≡ t.dims
  pub each : (k d : ℕ) → d < t.dims → prefix_node fronts k d ≢ unset_node
      → IfSome (row_at t k) (λ row. cell_at a.now (prefix_node fronts k d)
      ≡ Some (cell_prefix (suc d) (cell_of row.tuple)))

-- the cell has a value in each dimension up to d
abbrev pub IsFull : Cell ℕ → ℕ → Type 0
IsFull cell d = (k : ℕ) → k ≤ d → is_some (slice_index_or cell k None) ≡ true
