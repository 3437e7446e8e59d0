-- Searches for the labels of a node in one dimension, some of them side by side.
use Rattle.std.specs.Prelude.{◌≡◌, ℕ, ◌+◌, ◌<◌, Option, Some, None, List, if◌then◌else◌, nat_eq, slice_get, slice_index_or}
use Rattle.std.specs.Option.{option_map, option_and_then}
use Rattle.std.specs.Ordering.{eq_by_cmp, nat_cmp}
use Rattle.cell_core.specs.declared.cell.NodeNo.{NodeNo}
use Rattle.cube_defs.specs.Cell.{Cell, with_value}
use Rattle.cube_defs.specs.Tree.{Edge, Tree}
use Rattle.qc_arena.specs.RecordReaders.{number, record_at}
use Rattle.tree_laws.specs.Walk.{walk_on}
use Rattle.tree_search.specs.Found.{IsNumberOfCell, closure_in}
use Rattle.batch_delete.specs.Rests.{Deletion, source_before}

-- where one dimension of a search leads
abbrev pub stepped : Tree ℕ → ℕ → Option ℕ → Option ℕ → Option ℕ
stepped tree i asked number
    = option_and_then (λ k. walk_on (eq_by_cmp nat_cmp) k (record_at tree k) i asked) number

-- the target of a label, if the label is in the dimension
abbrev pub target_in : ℕ → Edge ℕ ℕ → Option ℕ
target_in i x = if nat_eq x.dim i then Some x.target else None

-- the nodes found for the labels from a place on, until another, are those of the parts of the class by these labels
abbrev pub AreFound : Deletion → Tree ℕ → Cell ℕ → ℕ → List (Edge ℕ ℕ) → ℕ → ℕ → List (Option NodeNo) → Type 0
AreFound d tree u i edges from until nodes = (k : ℕ) (x : Edge ℕ ℕ) → from + k < until
    → slice_get edges (from + k) ≡ Some x → x.dim ≡ i
    → IsNumberOfCell tree (option_map number (slice_index_or nodes k None))
    (closure_in (source_before d) (with_value u i x.value))
