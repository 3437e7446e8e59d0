-- The versions of a warehouse that are kept under names.
use Rattle.std.specs.Prelude.{ℕ, ◌≡◌, ◌≤◌, Bool, not, filter, List, Option, length, map}
use Rattle.std.specs.FinMap as finmap
use Rattle.std.specs.List.{AllByRecursion, IsDistinct, find}
use Rattle.std.specs.Str.{bytes_eq}
use Rattle.cube_defs.specs.Rows.{Row}
use Rattle.cube_defs.specs.Text.{Text}
use Rattle.cube_defs.specs.Tree.{Tree}
use Rattle.qc_arena.specs.Map.{ImageMap}
use Rattle.pinned_view.specs.declared.pins.TheConstants.{MAX_PINS}
use Rattle.warehouse.specs.State.{Contents, HasTree, with_rows}

-- a name, the rows that were present when it was pinned, and their tree then
pub record Version : Type 0 where
  pub name : Text
  pub rows : List (Row Text)
  pub tree : Tree ℕ

-- a warehouse, its versions that are pinned, and the lists of before-images that are kept for them, the oldest first
pub record Versions : Type 0 where
  pub now : Contents
  pub pins : List Version
  pub stored : List ImageMap

-- what is true of a warehouse with versions: they have names of their own, and the tree of each is still the
-- canonical tree of its rows
pub record AreVersions (v : Versions) : Type 0 where
  pub few : length v.pins ≤ MAX_PINS
  pub distinct : IsDistinct bytes_eq (map (λ version. version.name) v.pins)
  pub trees : AllByRecursion (λ version. HasTree (with_rows v.now.state version.rows) version.tree) v.pins
  -- what the last change made of the nodes is kept for the versions, or dropped
  pub plain : v.now.images ≡ finmap.empty

-- whether a version has the name
abbrev pub is_named : Text → Version → Bool
is_named name version = bytes_eq version.name name

-- the first version of a name
abbrev pub version_of : List Version → Text → Option Version
version_of versions name = find (is_named name) versions

-- the versions of other names
abbrev pub without : List Version → Text → List Version
without versions name = filter (λ version. not (is_named name version)) versions

-- what is pinned under a name now
abbrev pub version_now : Text → Contents → Version
version_now name now = record { name = name; rows = now.state.rows; tree = now.tree }

-- the same warehouse and the same versions, whatever lists are kept for them
abbrev pub ShowsSame : Versions → Versions → Type 0
ShowsSame before after = after ≡ record before { stored = after.stored }
