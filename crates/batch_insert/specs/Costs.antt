-- What a repair costs, in steps.
use Rattle.std.specs.Prelude.{ℕ, Option, None, Some, ◌+◌, ◌*◌, List, ◌∷◌, ◌++◌, filter, length, if◌then◌else◌}
use Rattle.std.specs.List.{sum_by}
use Rattle.std.specs.Ordering.{nat_cmp, eq_by_cmp}
use Rattle.cube_defs.specs.Cell.{Cell, cell_eq, cell_prefix, leq}
use Rattle.cube_defs.specs.Tree.{Node, Tree, node_of, nodes}
use Rattle.qc_arena.specs.Map.{Arena}
use Rattle.qc_arena.specs.RecordReaders.{record_at}
use Rattle.batch_insert.specs.declared.plan.LabelCopy.{LabelCopy}
use Rattle.batch_insert.specs.declared.plan.Plan.{Plan}
use Rattle.batch_insert.specs.Cases.{Case}

-- the labels of a node are read and set
abbrev pub copy_cost : Tree ℕ → LabelCopy → ℕ
copy_cost tree x = 1 + 2 * length (record_at tree x.from.0).edges

-- what the writes of a plan cost
abbrev pub cost_of : Tree ℕ → Plan → ℕ
cost_of tree p = length p.planned_nodes.items
    + (sum_by (copy_cost tree) p.copies.items + (length p.tuple_labels.items + 2 * length p.ends.items))

-- how many edges a record has, if there is one
abbrev pub edges_of : Option (Node ℕ (Cell ℕ)) → ℕ
edges_of None = 0
edges_of (Some n) = length n.edges

module _ {t : Cell ℕ} {a : Arena} (c : Case t a) where
  -- how many edges a node has with the row
  abbrev pub edges_at : Cell ℕ → ℕ
  edges_at p = edges_of (node_of nat_cmp 0 (c.xs ++ c.row ∷ c.ys) p)

  -- what a node that generalizes t costs: its own plan and writes, without those of its children
  abbrev pub weight : Cell ℕ → ℕ
  weight p = 6 + 2 * edges_at p + length t * (2 * length t + 7 + 2 * edges_at p)

  abbrev pub nodes_with : List (Cell ℕ)
  nodes_with = filter (λ q. leq (eq_by_cmp nat_cmp) q t) (nodes nat_cmp (c.xs ++ c.row ∷ c.ys))

  -- what all nodes that generalize t cost whose prefix before i is p
  unfoldable pub generalizing_cost : Cell ℕ → ℕ → ℕ
  generalizing_cost p i =
      sum_by (λ q. if cell_eq (eq_by_cmp nat_cmp) (cell_prefix i q) p then weight q else 0) nodes_with
