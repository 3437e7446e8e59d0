-- Where the walk stands in the arena, and what it has done there.
use Rattle.std.specs.Prelude.{◌≡◌, ◌<◌, ◌+◌, ℕ, suc, true, false, List, [], ◌∷◌}
use Rattle.std.specs.FinMap as map
use Rattle.cube_defs.specs.Cell.{Cell, cell_prefix}
use Rattle.base_table.specs.Places.{Places, named, rows_of}
use Rattle.cube_laws.specs.Parting.{shared_by}
use Rattle.build_trace.specs.Trace.{Act, Act.{Label}, part_acts}
use Rattle.build_trace.specs.Walk.{same_prefix}
use Rattle.class_builder.specs.Building.{PerformsActs, ActsComeNext}
use Rattle.qc_arena.specs.Map.{Arena, is_open}
use Rattle.class_builder.specs.PrefixNodes.{ArePrefixNodes}
use Rattle.class_builder.specs.Walk.{IsOnPath, acts_from}
use Rattle.class_builder.specs.declared.part.Group.{Group}
use Rattle.class_builder.specs.declared.prefix_nodes.PrefixNodes.{PrefixNodes}
use Rattle.class_builder.specs.declared.path.Path.{Path}

-- the arena is open and has no nodes yet, for cells of so many dimensions
pub record IsFreshArena (a : Arena) (dims : ℕ) : Type 0 where
  pub opened : is_open a ≡ true
  pub empty : a.now ≡ map.empty
  pub width : a.width ≡ dims

-- these acts come next, and the walk is at u's prefix with k dimensions
pub record StandsAt (t : Places) (u : Cell ℕ) (k : ℕ) (es : List Act) (a : Arena) (p : Path)
    (f : PrefixNodes) : Type 0 where
  pub width : a.width ≡ t.dims
  pub next : ActsComeNext t.measures (rows_of t) es a
  pub path : IsOnPath a p u k
  pub fronts : ArePrefixNodes t a f

-- these acts are done from the one arena to the other
pub record HasDone (t : Places) (es : List Act) (a b : Arena) (f : PrefixNodes) : Type 0 where
  pub does : PerformsActs t.measures (rows_of t) es a b
  pub fronts : ArePrefixNodes t b f

-- these acts come next, and the walk is at u's prefix before the table's dimension k
pub record StandsBefore (t : Places) (u : Cell ℕ) (k : ℕ) (es : List Act) (a : Arena) (p : Path)
    (f : PrefixNodes) : Type 0 where
  pub below : k < t.dims
  pub at : StandsAt t u k es a p f

-- what is done for a group
abbrev pub group_acts : Group → List Act
group_acts g = part_acts (acts_from g.table.now (g.dim + 1)) g.dim g.upper.now g.code (named g.table.now g.rows.now)

-- the label of the edge to a group's node is set
abbrev pub link_acts : Group → List Act
link_acts g = Label false (cell_prefix g.dim g.upper.now) g.dim g.code
    (cell_prefix (suc g.dim) (shared_by (named g.table.now g.rows.now))) ∷ []

-- the label of the edge to a group's node comes next. Its rows share more than the cell above has, first in dimension
-- `first`, so their class was built earlier
pub record StandsAtLink (g : Group) (first : ℕ) (a : Arena) (p : Path) (f : PrefixNodes) : Type 0 where
  pub before : first < g.dim
  pub front : same_prefix first (shared_by (named g.table.now g.rows.now)) g.upper.now ≡ true
  pub gains : same_prefix (suc first) (shared_by (named g.table.now g.rows.now)) g.upper.now ≡ false
  pub at : StandsAt g.table.now g.upper.now g.dim (link_acts g) a p f
