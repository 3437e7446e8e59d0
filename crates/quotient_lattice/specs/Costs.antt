-- What the neighbours of a class may cost, by the tree of the rows.
use Rattle.std.specs.Prelude.{ℕ, zero, suc, ◌+◌, List, filter}
use Rattle.std.specs.declared.cmp.Ordering.{Ordering}
use Rattle.std.specs.List.{sum_by}
use Rattle.std.specs.Option.{option_map_or}
use Rattle.std.specs.Ordering.{eq_by_cmp}
use Rattle.cube_defs.specs.Cell.{Cell, leq}
use Rattle.cube_defs.specs.Rows.{Row}
use Rattle.cube_defs.specs.Tree.{classes, parent_cell_of}
use Rattle.cube_laws.specs.Parts.{value_count}
use Rattle.iceberg_query.specs.Costs.{edges_at}

module _ {A : Type 0} (cmp : A → A → Ordering) where
  -- how many edges the node of a cell and so many of its ancestors have
  abbrev pub edges_above : List (Row A) → ℕ → Cell A → ℕ
  edges_above rows zero p = edges_at cmp rows p
  edges_above rows (suc n) p = edges_at cmp rows p + option_map_or (edges_above rows n) (parent_cell_of cmp p) 0

  -- how many edges the nodes from the root to this one have
  abbrev pub edges_to : List (Row A) → Cell A → ℕ
  edges_to rows p = edges_above rows (value_count p) p

  -- the classes that a class generalizes, itself included
  abbrev pub classes_from : List (Row A) → Cell A → List (Cell A)
  classes_from rows u = filter (leq (eq_by_cmp cmp) u) (classes cmp rows)

  -- one for each of these classes, and one for each edge at the nodes from the root to it
  abbrev pub size_from : List (Row A) → Cell A → ℕ
  size_from rows u = sum_by (λ d. edges_to rows d + 1) (classes_from rows u)
