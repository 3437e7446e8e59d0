-- Why a version isn't pinned, and why no dimension is added.
use Rattle.std.specs.Prelude.{List, Option, Some, None, Result, Ok, Err, is_some, length, nat_lt, if◌then◌else◌}
use Rattle.cube_defs.specs.Text.{Text}
use Rattle.pinned_view.specs.Versions.{Version, version_of}
use Rattle.pinned_view.specs.declared.pins.TheConstants.{MAX_PINS}
use Rattle.pinned_view.specs.declared.refused.PinRefused.{PinRefused}
use Rattle.pinned_view.specs.declared.refused.PinRefused.TheVariants.{NameTaken, AllPinned}
use Rattle.pinned_view.specs.declared.refused.PinnedWiden.{PinnedWiden}
use Rattle.pinned_view.specs.declared.refused.PinnedWiden.TheVariants as refusals
use Rattle.warehouse.specs.Widening.{WidenRefusal, DimsFull, NodesFull}

-- why a version isn't pinned: the first cause that holds
abbrev pub pin_refusal : List Version → Text → Result (Unit {0}) PinRefused
pin_refusal versions name =
    if is_some (version_of versions name) then Err NameTaken
    else (if nat_lt (length versions) MAX_PINS then Ok tt else Err AllPinned)

-- what a refusal to add a dimension says where no version is pinned, but for want of memory
abbrev pub widen_refusal_in : PinnedWiden → Option WidenRefusal
widen_refusal_in refusals.Pinned = None
widen_refusal_in refusals.DimsFull = Some DimsFull
widen_refusal_in refusals.NodesFull = Some NodesFull
widen_refusal_in refusals.Memory = None
