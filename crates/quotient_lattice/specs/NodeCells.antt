-- Nodes with their cells, as they are picked and put in order.
use Rattle.std.specs.Prelude.{◌≡◌, ℕ, ◌+◌, ◌<◌, Bool, true, not, IsSome, ◌||◌, List, nat_eq, nat_lt, length, take, slice_index_or}
use Rattle.std.specs.List.{All}
use Rattle.std.specs.declared.cmp.Ordering.{Ordering}
use Rattle.std.specs.FinMap as map
use Rattle.std.specs.Ordering.{eq_by_cmp, is_lt, nat_cmp}
use Rattle.cube_defs.specs.Cell as defs
use Rattle.cube_defs.specs.Text.{Text, text_cmp}
use Rattle.cube_defs.specs.Rows.{is_class}
use Rattle.cube_defs.specs.Tree.{Tree}
use Rattle.tree_search.specs.Found.{TreeRows}
use Rattle.cube_laws.specs.Parts.{value_count}
use Rattle.cube_laws.specs.Recoding.{coded_cell}
use Rattle.cell_core.specs.declared.cell.NodeNo.{NodeNo}
use Rattle.qc_arena.specs.RecordReaders.{record_at}
use Rattle.value_dict.specs.Recoded.{text_in}
use Rattle.quotient_lattice.specs.declared.node_cells.NodeCell.{NodeCell}
use Rattle.quotient_lattice.specs.Candidates.{times}

abbrev pub node_of : NodeCell → NodeNo
node_of x = x.node

abbrev pub number_of : NodeCell → ℕ
number_of x = x.node.0

-- the cell with the texts of its codes
abbrev pub decoded_node_cell : List (List Text) → NodeCell → defs.Cell Text
decoded_node_cell lists x = coded_cell (text_in lists) 0 x.cell

abbrev pub place_cmp : List (List Text) → NodeCell → NodeCell → Ordering
place_cmp lists x y = defs.cell_cmp text_cmp (decoded_node_cell lists x) (decoded_node_cell lists y)

abbrev pub is_before : List (List Text) → NodeCell → NodeCell → Bool
is_before lists x y = is_lt (place_cmp lists x y)

-- each has the cell of its node
abbrev pub AreAt : Tree ℕ → List NodeCell → Type 0
AreAt tree xs = All (λ x. (record_at tree x.node.0).cell ≡ x.cell) xs

-- in a list in order, a number stands for the last time
abbrev pub is_last : List ℕ → ℕ → Bool
is_last xs i = not (nat_lt (i + 1) (length xs)) || not (nat_eq (slice_index_or xs (i + 1) 0) (slice_index_or xs i 0))

-- all places of a number lie before place i, and with them its node has just as many values
pub record IsPicked (tree : Tree ℕ) (values : ℕ) (xs : List ℕ) (i k : ℕ) : Type 0 where
  pub some : 0 < times k xs
  pub done : times k (take i xs) ≡ times k xs
  pub enough : times k xs + values ≡ value_count (record_at tree k).cell

-- the node of a class that passes a test
pub record IsPassing (tree : Tree ℕ) (source : TreeRows) (P : defs.Cell ℕ → Bool) (k : ℕ) : Type 0 where
  pub there : IsSome (map.get tree k)
  pub class : is_class (eq_by_cmp nat_cmp) source.rows (record_at tree k).cell ≡ true
  pub passes : P (record_at tree k).cell ≡ true
