-- What one dimension more makes of rows, texts and tree.
use Rattle.std.specs.Prelude.{◌+◌, ◌<◌, ◌≡◌, ◌≤◌, None, false, length, map}
use Rattle.std.specs.FinMap as finmap
use Rattle.base_table.specs.Places.{IsTable, rows_of, with_code}
use Rattle.cube_defs.specs.declared.limits.TheConstants.{MAX_DIMS}
use Rattle.cube_defs.specs.Text.{Text}
use Rattle.qc_arena.specs.Map.{is_open}
use Rattle.qc_schema.specs.Schema.{Layout}
use Rattle.tree_search.specs.Found.{IsTreeOf}
use Rattle.value_dict.specs.TextLists.{IsDictionary, with_dim}
use Rattle.warehouse.specs.ClassMoves.{HasRoom}
use Rattle.warehouse.specs.Steps.{frame}
use Rattle.warehouse.specs.Widening.{KeepsWidened}
use Rattle.warehouse.specs.declared.cube.Cube.{Cube}

-- each row has the value in the dimension, and each class of the tree handed its aggregate to a child
pub record AreWidened (value : Text) (cube cube' : Cube) : Type 0 where
  pub texts : cube'.dict ≡ with_dim cube.dict value
  pub dictionary : IsDictionary cube'.dict
  pub rows : rows_of cube'.table ≡ map (with_code 0) (rows_of cube.table)
  pub frame : frame cube'.table ≡ record (frame cube.table) { dims = cube.table.dims + 1 }
  pub valid : IsTable cube'.table
  pub canonical : IsTreeOf (cube.table.dims + 1) cube'.tree.now
      (record { measures = cube.table.measures; rows = rows_of cube'.table })
  pub kept : KeepsWidened cube.table.dims cube.tree.now cube'.tree.now
  pub few : finmap.len cube'.tree.now ≤ cube'.tree.max
  pub of_tree : cube'.tree ≡ record cube.tree { width = cube.table.dims + 1; now = cube'.tree.now }

-- a cube that a dimension can be added to, and the schema with it
pub record CanWiden (wide : Layout) (cube : Cube) : Type 0 where
  pub dims : length wide.dims ≡ cube.table.dims + 1
  pub measures : length wide.measures ≡ cube.table.measures
  pub few : cube.table.dims < MAX_DIMS
  pub lists : length cube.dict.lists ≡ cube.table.dims
  pub valid : IsTable cube.table
  pub is_closed : cube.table.was ≡ None
  pub closed : is_open cube.tree ≡ false
  pub width : cube.tree.width ≡ cube.table.dims
  pub source : IsTreeOf cube.table.dims cube.tree.now
      (record { measures = cube.table.measures; rows = rows_of cube.table })
  pub room : HasRoom cube.tree
