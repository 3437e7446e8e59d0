-- The cells of nodes, with the texts of their codes.
use Rattle.std.specs.Prelude.{List, map, ℕ}
use Rattle.cube_defs.specs.Cell.{Cell}
use Rattle.cube_defs.specs.Text.{Text}
use Rattle.cube_defs.specs.Tree.{Tree}
use Rattle.cell_core.specs.declared.cell.NodeNo.{NodeNo}
use Rattle.qc_arena.specs.RecordReaders.{record_at}
use Rattle.value_dict.specs.Decoded.{decoded_cell}

-- the cell of a node, with texts
abbrev pub decoded_node : List (List Text) → Tree ℕ → NodeNo → Cell Text
decoded_node lists tree node = decoded_cell lists (record_at tree node.0).cell

abbrev pub decoded_nodes : List (List Text) → Tree ℕ → List NodeNo → List (Cell Text)
decoded_nodes lists tree nodes = map (decoded_node lists tree) nodes
