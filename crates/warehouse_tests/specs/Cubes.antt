-- Trees of the tests.
use Rattle.std.specs.Prelude.{◌≡◌, ℕ}
use Rattle.cube_defs.specs.Tree.{Tree}
use Rattle.tree_search.specs.Found.{IsTreeOf, TreeRows}

-- the tree is that of some rows of three dimensions and one measure
abbrev pub IsOfOneMeasure : Tree ℕ → Type 0
IsOfOneMeasure tree = (source : TreeRows) × IsTreeOf 3 tree source × (source.measures ≡ 1)
