-- What is seen of a version.
use Rattle.std.specs.Prelude.{ℕ, ◌≡◌, ◌≢◌, IfNone, IfSome, List, None, Option, Some, drop, length, replicate, ◌≤◌, ⊤}
use Rattle.std.specs.FinMap as finmap
use Rattle.cell_core.specs.declared.cell.NodeNo.{NodeNo}
use Rattle.cube_defs.specs.Tree.{Tree, cell_at}
use Rattle.pinned_view.specs.Versions.{Version}
use Rattle.qc_arena.specs.Map.{ImageMap}
use Rattle.qc_arena.specs.declared.images.Look.{Look}
use Rattle.qc_arena.specs.declared.images.Look.TheVariants.{Gone, Same, Was}
use Rattle.warehouse.specs.Counted.{AreCounted}
use Rattle.warehouse.specs.State.{HasTree, State, with_rows}
use Rattle.warehouse.specs.declared.refused.Stats.{Stats}

-- a tree, how many dimensions its cells have, what is counted of it, and the lists of before-images that it is read
-- through, the oldest first
pub record CountedTree : Type 0 where
  pub width : ℕ
  pub tree : Tree ℕ
  pub stats : Stats
  pub lists : List ImageMap

-- the number is that of a tree's root, the node without values, if it has one
pub record IsRootOf (width : ℕ) (tree : Tree ℕ) (root : Option NodeNo) : Type 0 where
  pub some : IfSome root (λ k. cell_at tree k.0 ≡ Some (replicate width None))
  pub none : IfNone root ((k : ℕ) → cell_at tree k ≢ Some (replicate width None))

-- a look at a number: its record in the tree, or that it has none there, or nothing
abbrev pub SaysOf : Tree ℕ → ℕ → Look → Type 0
SaysOf tree q Same = ⊤
SaysOf tree q Gone = finmap.get tree q ≡ None
SaysOf tree q (Was known) = finmap.get tree q ≡ Some known.now

-- the lists are those that are stored from some place on
abbrev pub AreLast : List ImageMap → List ImageMap → Type 0
AreLast lists stored = (place : ℕ) × (place ≤ length stored) × (lists ≡ drop place stored)

-- the tree is that of a version, and so is what is counted; it is the canonical tree of the version's rows
-- under the schema and the texts of the state
pub record IsViewOf (s : State) (version : Version) (view : CountedTree) : Type 0 where
  pub width : view.width ≡ length s.schema.dims
  pub tree : view.tree ≡ version.tree
  pub stats : AreCounted version.rows view.stats
  pub has : HasTree (with_rows s version.rows) version.tree
