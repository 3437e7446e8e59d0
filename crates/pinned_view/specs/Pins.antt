-- What is kept of the versions, and what it means.
use Rattle.std.specs.Prelude.{ℕ, suc, ◌≡◌, ◌+◌, ◌-◌, ◌*◌, ◌≤◌, ◌==◌, Bool, false, List, [], ◌∷◌, ◌++◌, drop, length, map, min, nat_lt}
use Rattle.std.specs.Prelude.{if◌then◌else◌, ⊤}
use Rattle.std.specs.FinMap as finmap
use Rattle.std.specs.List.{AllByRecursion, IsDistinct, list_any}
use Rattle.std.specs.Option.{option_or}
use Rattle.std.specs.Mem.{manually_drop_value}
use Rattle.std.specs.Str.{bytes_eq}
use Rattle.cube_defs.specs.Text.{Text}
use Rattle.cube_defs.specs.Tree.{Tree}
use Rattle.qc_arena.specs.Map.{ImageMap}
use Rattle.pinned_view.specs.Past.{StoresNoMore, with_all_images}
use Rattle.pinned_view.specs.Versions.{Version}
use Rattle.pinned_view.specs.Views.{IsRootOf}
use Rattle.warehouse.specs.Counted.{AreCounted}
use Rattle.pinned_view.specs.declared.pins.Pin.{Pin}
use Rattle.pinned_view.specs.declared.pins.TheConstants.{MAX_PINS}
use Rattle.warehouse.specs.State.{Contents, HasTree, with_rows}

-- the warehouse as it was when it was pinned
abbrev pub was_in : Pin → Contents
was_in pin = (manually_drop_value pin.was).value

-- the version that a pin stands for
abbrev pub version_in : Pin → Version
version_in pin = record { name = pin.name.bytes; rows = (was_in pin).state.rows; tree = (was_in pin).tree }

-- whether a pin has the name
abbrev pub has_name : Text → Pin → Bool
has_name name pin = bytes_eq pin.name.bytes name

-- a pin with so many images less before it
abbrev pub moved_back : ℕ → Pin → Pin
moved_back by pin = record pin { from = pin.from - by }

-- the place of a list where the list at another place is merged into the one before that
abbrev pub place_without : ℕ → ℕ → ℕ
place_without gone place = if nat_lt gone place then place - 1 else place

-- a pin after such a merge
abbrev pub moved_over : ℕ → Pin → Pin
moved_over gone pin = record pin { from = place_without gone pin.from }

-- a pin apart from its place
abbrev pub unplaced : Pin → Pin
unplaced pin = record pin { from = 0 }

-- whether a pin reads from a place on
abbrev pub reads_from : List Pin → ℕ → Bool
reads_from pins place = list_any (λ pin. pin.from == place) pins

-- the least place from which a pin reads, or the end if there is no pin
abbrev pub least_place : ℕ → List Pin → ℕ
least_place end [] = end
least_place end (pin ∷ pins) = least_place (min end pin.from) pins

-- the lists of images after a change: the new ones come last, if there is a pin
abbrev pub kept_after : List Pin → List ImageMap → ImageMap → List ImageMap
kept_after [] kept images = kept
kept_after (pin ∷ pins) kept images = kept ++ images ∷ []

-- the tree that a pin reads: that of now under the images that were kept since
abbrev pub tree_at_pin : List ImageMap → Tree ℕ → Pin → Tree ℕ
tree_at_pin kept now pin = with_all_images (drop pin.from kept) now

-- each pin reads from a place up to this one
abbrev pub AreWithin : ℕ → List Pin → Type 0
AreWithin place pins = AllByRecursion (λ pin. pin.from ≤ place) pins

-- each pin reads the same tree as it did under other images
abbrev pub ReadSame : List ImageMap → Tree ℕ → List ImageMap → Tree ℕ → List Pin → Type 0
ReadSame kept before kept' now pins
    = AllByRecursion (λ pin. tree_at_pin kept' now pin ≡ tree_at_pin kept before pin) pins

-- what is true of a pin: it reads the tree that it remembers, which is still the canonical tree of its rows
pub record IsPin (now : Contents) (kept : List ImageMap) (pin : Pin) : Type 0 where
  pub within : pin.from ≤ length kept
  pub tree : tree_at_pin kept now.tree pin ≡ (was_in pin).tree
  pub root : IsRootOf (length now.state.schema.dims) (was_in pin).tree pin.root
  pub stats : AreCounted (was_in pin).state.rows pin.stats
  pub has : HasTree (with_rows now.state (was_in pin).state.rows) (was_in pin).tree

-- what is true of all pins
pub record ArePins (now : Contents) (kept : List ImageMap) (pins : List Pin) : Type 0 where
  pub each : AllByRecursion (IsPin now kept) pins
  pub few : length pins ≤ MAX_PINS
  pub distinct : IsDistinct bytes_eq (map (λ pin. pin.name.bytes) pins)
  -- the first list is read by a pin, if there is a list
  pub first : least_place (length kept) pins ≡ 0
  -- the images of the last change are kept for the pins, or dropped
  pub plain : now.images ≡ finmap.empty

-- each pin is the same but for its place, and reads the same tree as it did; no number gets an image
pub record KeepsReads (kept : List ImageMap) (before : List Pin) (kept' : List ImageMap) (after : List Pin) : Type 0 where
  pub pins : map unplaced after ≡ map unplaced before
  pub trees : (tree : Tree ℕ) → map (tree_at_pin kept' tree) after ≡ map (tree_at_pin kept tree) before
  pub within : AreWithin (length kept) before → AreWithin (length kept') after
  pub first : least_place (length kept') after ≤ least_place (length kept) before
  pub stores : StoresNoMore kept kept'

-- the images after a place are merged into those at it
pub record IsMergedAt (place : ℕ) (kept kept' : List ImageMap) : Type 0 where
  pub front : List ImageMap
  pub older : ImageMap
  pub later : ImageMap
  pub both : ImageMap
  pub back : List ImageMap
  pub was : kept ≡ front ++ older ∷ later ∷ back
  pub now : kept' ≡ front ++ both ∷ back
  pub at : length front ≡ place
  pub merged : (q : ℕ) → finmap.get both q ≡ option_or (finmap.get older q) (finmap.get later q)

-- the first of these images, which stand from a place on, are more than twice the next, or a pin reads from between
abbrev pub IsSettledAt : ℕ → List ImageMap → List Pin → Type 0
IsSettledAt place [] pins = ⊤
IsSettledAt place (older ∷ []) pins = ⊤
IsSettledAt place (older ∷ later ∷ back) pins =
    reads_from pins (suc place) ≡ false → 2 * finmap.len later + 2 ≤ finmap.len older

-- so it is with all of them
abbrev pub AreSettledFrom : ℕ → List ImageMap → List Pin → Type 0
AreSettledFrom place [] pins = ⊤
AreSettledFrom place (older ∷ back) pins = IsSettledAt place (older ∷ back) pins × AreSettledFrom (suc place) back pins
