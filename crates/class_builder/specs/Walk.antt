-- Where the walk stands.
use Rattle.std.specs.Prelude.{◌≡◌, ◌<◌, ◌≤◌, ℕ, suc, ◌-◌, Bool, true, Some, None, List, [], ◌∷◌, length, nat_eq, slice_index_or}
use Rattle.std.specs.List.{AllByRecursion}
use Rattle.cube_defs.specs.Cell.{Cell, cell_prefix}
use Rattle.cube_defs.specs.Rows.{Row, covers}
use Rattle.cube_defs.specs.Tree.{cell_at}
use Rattle.cube_defs.specs.declared.limits.TheConstants.{MAX_ROWS}
use Rattle.cube_laws.specs.Parting.{shared_by}
use Rattle.cell_core.specs.Entry.{IsCode}
use Rattle.base_table.specs.Places.{Places, AreThere, IsTable, named}
use Rattle.base_table.specs.declared.table.RowNo.{RowNo}
use Rattle.qc_arena.specs.Map.{Arena}
use Rattle.build_trace.specs.Trace.{Act, Act.{Add, Label}, acts}
use Rattle.class_builder.specs.declared.path.Path.{Path}

-- the acts for rows of a table from dimension k on
abbrev pub acts_from : Places → ℕ → List (Row ℕ) → List Act
acts_from t k rows = acts t.measures (t.dims - k) k rows

-- the node of c's prefix with dimension k is added, and its label is set
abbrev pub prefix_acts : Bool → Cell ℕ → ℕ → ℕ → List Act
prefix_acts forced c k v = Add (cell_prefix (suc k) c) ∷ Label forced (cell_prefix k c) k v (cell_prefix (suc k) c) ∷ []

-- the number of the node that a path has for the prefix with k dimensions
abbrev pub node_on : Path → ℕ → ℕ
node_on path k = (slice_index_or path.nodes k (record { 0 = 0 })).0

-- the path has the nodes of c's prefixes with up to k dimensions
pub record IsOnPath (a : Arena) (path : Path) (c : Cell ℕ) (k : ℕ) : Type 0 where
  pub each : (j : ℕ) → j ≤ k → cell_at a.now (node_on path j) ≡ Some (cell_prefix j c)

-- rows of a table, of which there are some, and what they share
pub record IsPart (t : Places) (nos : List RowNo) (u : Cell ℕ) : Type 0 where
  pub table : IsTable t
  pub some : 0 < length nos
  pub few : length nos ≤ MAX_ROWS
  pub there : AreThere t nos
  pub shared : u ≡ shared_by (named t nos)

-- rows of a table, of which there are some, that the cell covers
pub record AreCoveredRows (t : Places) (nos : List RowNo) (upper : Cell ℕ) : Type 0 where
  pub table : IsTable t
  pub some : 0 < length nos
  pub there : AreThere t nos
  pub covered : AllByRecursion (λ row. covers nat_eq upper row ≡ true) (named t nos)
  pub long : length upper ≡ t.dims

-- such rows that share the code in dimension k
pub record IsGroup (t : Places) (nos : List RowNo) (code : ℕ) (upper : Cell ℕ) (k : ℕ) : Type 0 where
  pub under : AreCoveredRows t nos upper
  pub few : length nos ≤ MAX_ROWS
  pub dim : k < t.dims
  pub value : slice_index_or (shared_by (named t nos)) k None ≡ Some code
  pub small : IsCode code
