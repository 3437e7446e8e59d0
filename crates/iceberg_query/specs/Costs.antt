-- What a walk over a tree may cost, by its nodes and edges.
use Rattle.std.specs.Prelude.{ℕ, ◌+◌, ◌*◌, List, length}
use Rattle.std.specs.declared.cmp.Ordering.{Ordering}
use Rattle.std.specs.List.{sum_by}
use Rattle.std.specs.Option.{option_map_or}
use Rattle.cube_defs.specs.Cell.{Cell}
use Rattle.cube_defs.specs.Rows.{Row}
use Rattle.cube_defs.specs.Tree.{Tree, node_of, nodes}
use Rattle.qc_arena.specs.RecordReaders.{record_at}

-- two steps for each of some nodes, and two for each of its edges
abbrev pub walk_cost : Tree ℕ → List ℕ → ℕ
walk_cost tree ks = sum_by (λ k. 2 * (length (record_at tree k).edges + 1)) ks

module _ {A : Type 0} (cmp : A → A → Ordering) where
  -- how many edges the node of a cell has
  abbrev pub edges_at : List (Row A) → Cell A → ℕ
  edges_at rows p = option_map_or (λ n. length n.edges) (node_of cmp 0 rows p) 0

  -- how many nodes and edges the tree of the rows has
  abbrev pub tree_size : List (Row A) → ℕ
  tree_size rows = sum_by (λ p. edges_at rows p + 1) (nodes cmp rows)
