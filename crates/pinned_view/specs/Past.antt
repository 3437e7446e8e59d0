-- Several images over one tree.
use Rattle.std.specs.Prelude.{ℕ, ◌≡◌, ◌≤◌, Option, None, List, [], ◌∷◌, length}
use Rattle.std.specs.FinMap as map
use Rattle.std.specs.Option.{option_or}
use Rattle.cube_defs.specs.Tree.{Tree}
use Rattle.qc_arena.specs.Map.{ImageMap, Known, overlaid}

-- a tree with several images put over it, of which the oldest stand first and are put over last
abbrev pub with_all_images : List ImageMap → Tree ℕ → Tree ℕ
with_all_images [] tree = tree
with_all_images (images ∷ later) tree = overlaid images (with_all_images later tree)

-- what the first images say that say something of the number
abbrev pub first_image : List ImageMap → ℕ → Option (Option Known)
first_image [] q = None
first_image (images ∷ later) q = option_or (map.get images q) (first_image later q)

-- a number that had no image in a list, and has none in some images, has none in another list
abbrev pub StoresNoOthers : List ImageMap → ImageMap → List ImageMap → Type 0
StoresNoOthers before images now =
    (q : ℕ) → first_image before q ≡ None → map.get images q ≡ None → first_image now q ≡ None

-- a number that had an image in no list has none afterwards, and there are no more lists
pub record StoresNoMore (before now : List ImageMap) : Type 0 where
  pub images : (q : ℕ) → first_image before q ≡ None → first_image now q ≡ None
  pub lists : length now ≤ length before
