-- The tree of some rows, by its width.
use Rattle.std.proofs.Common.{ℕ, List}
use Rattle.cube_defs.specs.Text.{Text}
use Rattle.cube_defs.specs.Rows.{Row}
use Rattle.cube_defs.specs.Tree.{Tree}
use Rattle.query_answers.specs.Queries.{IsTreeOfRows}
use Rattle.tree_search.specs.Found.{IsTree, IsTreeOf}
use Rattle.warehouse.specs.State.{Contents, HasTree, source_of, with_rows}

module _ (held : Contents) (width : ℕ) (tree : Tree ℕ) (is : IsTreeOfRows held width tree) where
  pub tree-of : (rows : List (Row Text)) → HasTree (with_rows held.state rows) tree
      → IsTreeOf width tree (source_of (with_rows held.state rows))
  tree-of rows has = rw is.wide has.canonical

  pub some-tree : IsTree width tree
  some-tree = (source_of (with_rows held.state is.rows), tree-of is.rows is.kept)
