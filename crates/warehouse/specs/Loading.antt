-- What a load may cost.
use Rattle.std.specs.Prelude.{ℕ, ◌≡◌, ◌+◌, ◌*◌, List, [], length}
use Rattle.std.specs.FinMap as finmap
use Rattle.class_builder.specs.Costs.{cost_of_building}
use Rattle.csv_load.specs.Batch.{Change, deleted}
use Rattle.cube_defs.specs.Text.{Text}
use Rattle.cube_defs.specs.Tree.{Tree}
use Rattle.warehouse.specs.Counted.{tree_size}
use Rattle.warehouse.specs.State.{State}
use Rattle.warehouse.specs.declared.changing.Building.{Building}
use Rattle.warehouse.specs.declared.changing.Building.TheVariants as buildings

-- rows are inserted where there are none, and their tree is built from no tree
pub record IsLoad (building : Building) (s : State) (changes : List (Change Text)) : Type 0 where
  pub scratch : building ≡ buildings.FromScratch
  pub none : s.rows ≡ []
  pub inserts : deleted changes ≡ []

-- the most steps to build a tree from no nodes, to list its classes and to index them
abbrev pub cost_of_tree : ℕ → Tree ℕ → ℕ
cost_of_tree dims tree = cost_of_building dims tree + 2 * finmap.len tree

-- the most steps for a load, by the dimensions of the state after it, and the nodes and edges of the tree of its rows
abbrev pub cost_of_load : State → ℕ
cost_of_load s = 2 * (length s.schema.dims + 1) * (tree_size s.rows + 1)
