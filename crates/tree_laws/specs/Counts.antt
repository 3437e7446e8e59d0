-- What is counted in a tree that is kept by numbers.
use Rattle.std.specs.Prelude.{ℕ, Bool, not, Option, Some, map, is_some, sum}
use Rattle.std.specs.declared.cmp.Ordering.{Ordering}
use Rattle.std.specs.Ordering.{eq_by_cmp}
use Rattle.std.specs.FinMap as numbers
use Rattle.std.specs.List.{count_by}
use Rattle.std.specs.Option.{option_and_then, option_eq}
use Rattle.cube_defs.specs.Cell.{Cell, cell_eq}
use Rattle.cube_defs.specs.Tree.{Tree, cell_at, parent_cell_of}

module _ {A : Type 0} (cmp : A → A → Ordering) where
  -- a cell without its last value is p, if there is a cell
  abbrev pub is_parent_of : Cell A → Option (Cell A) → Bool
  is_parent_of p c = option_eq (cell_eq (eq_by_cmp cmp)) (option_and_then (parent_cell_of cmp) c) (Some p)

  abbrev pub classes_in : Tree A → ℕ
  classes_in tree = count_by (λ n. is_some n.class) (numbers.values tree)

  -- the edges that lead to a child of their node, and the others
  abbrev pub tree_edges_in : Tree A → ℕ
  tree_edges_in tree = sum (map (λ n. count_by (λ x. is_parent_of n.cell (cell_at tree x.target)) n.edges)
      (numbers.values tree))

  abbrev pub links_in : Tree A → ℕ
  links_in tree = sum (map (λ n. count_by (λ x. not (is_parent_of n.cell (cell_at tree x.target))) n.edges)
      (numbers.values tree))
