-- What is counted of rows and of their tree.
use Rattle.std.specs.Prelude.{◌≡◌, ◌+◌, ℕ, List, length}
use Rattle.cube_defs.specs.Rows.{Row}
use Rattle.cube_defs.specs.Text.{Text, text_cmp}
use Rattle.cube_defs.specs.Tree as trees
use Rattle.warehouse.specs.declared.refused.Stats.{Stats}

pub record AreCounted (present : List (Row Text)) (stats : Stats) : Type 0 where
  pub rows : stats.rows ≡ length present
  pub classes : stats.classes ≡ length (trees.classes text_cmp present)
  pub nodes : stats.nodes ≡ length (trees.nodes text_cmp present)
  pub tree_edges : stats.tree_edges ≡ trees.tree_edges text_cmp present
  pub links : stats.links ≡ trees.links text_cmp present

-- how many nodes and edges the tree of some rows has
abbrev pub tree_size : List (Row Text) → ℕ
tree_size present = length (trees.nodes text_cmp present) + (trees.tree_edges text_cmp present + trees.links text_cmp present)
