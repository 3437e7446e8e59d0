-- What is stored for the versions after a change.
use Rattle.std.proofs.Common.{◌≡◌, ℕ, ◌+◌, ◌*◌, ◌≤◌, sym, ap, ap₂, ◌∙◌, subst, false, true≢false, Option, Some, None, List, is_some}
use Rattle.std.proofs.Common.{length, map, arith}
use Rattle.std.specs.FinMap as finmap
use Rattle.std.proofs.lemmas.List.{length-map}
use Rattle.qc_arena.specs.Map.{ImageMap, Known}
use Rattle.pinned_view.specs.Past.{StoresNoMore}
use Rattle.pinned_view.specs.Pins.{AreSettledFrom, kept_after, least_place, version_in}
use Rattle.pinned_view.specs.Stored.{HasFewLists, StoresNoOtherNodes}
use Rattle.pinned_view.specs.Versions.{ShowsSame, Version, Versions}
use Rattle.pinned_view.specs.declared.pins.Pin.{Pin}
use Rattle.pinned_view.proofs.FewLists.{few_after}
use Rattle.pinned_view.proofs.StoredNumbers.{stored_after}
use Rattle.warehouse.specs.InPlace.{HasNoOtherImages}
use Rattle.warehouse.specs.State.{Contents}

pub few_lists : (now : Contents) (kept kept' : List ImageMap) (pins : List Pin) (images : ImageMap)
    → kept' ≡ kept_after pins kept images → AreSettledFrom 0 kept pins → least_place (length kept) pins ≡ 0
    → HasFewLists (record { now = now; pins = map version_in pins; stored = kept' })
few_lists now kept kept' pins images stored settled least
    = subst (λ (k : List ImageMap). HasFewLists (record { now = now; pins = map version_in pins; stored = k })) (sym stored)
    (λ bits short. counted bits (few_after pins kept images bits settled least short))
  where
    counted : (bits : ℕ) → length (kept_after pins kept images) ≤ bits * length pins + 1
        → length (kept_after pins kept images) ≤ bits * length (map version_in pins) + 1
    counted bits few =
        let same = ap (λ n. bits * n) (length-map pins version_in) in
        omega (arith, few, same)

-- a file or a dimension that is refused leaves the warehouse as it was, without images
pub same_contents : (was now : Contents) → now.state ≡ was.state → now.tree ≡ was.tree → now.index ≡ was.index
    → now.images ≡ finmap.empty → was.images ≡ finmap.empty → now ≡ was
same_contents was now state tree index none plain = λ j. let held : Contents
    = record { state = state j; tree = tree j; index = index j; images = (none ∙ sym plain) j } in held

-- a change that is refused after the lists were settled
pub shows_same : (was now : Contents) (kept kept' : List ImageMap) (pins pins' : List Pin) (old : Versions) → now ≡ was
    → map version_in pins' ≡ map version_in pins
    → record { now = was; pins = map version_in pins; stored = kept } ≡ old
    → ShowsSame old (record { now = now; pins = map version_in pins'; stored = kept' })
shows_same was now kept kept' pins pins' old same moved is =
    ap₂ (λ (n : Contents) (vs : List Version). let v : Versions = record { now = n; pins = vs; stored = kept' } in v) same
    moved ∙ ap (λ (v : Versions). let w : Versions = record v { stored = kept' } in w) is

no_image : (o : Option (Option Known)) → is_some o ≡ false → o ≡ None
no_image None h = λ j. None
no_image (Some x) h = absurd (true≢false h)

-- a change over settled lists stores the images of the nodes that it touches alone
pub stores_touched : (was mid now : Contents) (old : List Version) (before kept after : List ImageMap) (pins : List Pin)
    (bytes : List ℕ) → StoresNoMore before kept → after ≡ kept_after pins kept mid.images
    → now ≡ record mid { images = finmap.empty } → HasNoOtherImages was bytes mid
    → StoresNoOtherNodes (record { now = was; pins = old; stored = before }) bytes
    (record { now = now; pins = map version_in pins; stored = after })
stores_touched was mid now old before kept after pins bytes settled stored rest touches =
    subst (λ (n : Contents). StoresNoOtherNodes (record { now = was; pins = old; stored = before }) bytes
    (record { now = n; pins = map version_in pins; stored = after })) (sym rest)
    (subst (λ (k : List ImageMap). StoresNoOtherNodes (record { now = was; pins = old; stored = before }) bytes
    (record { now = record mid { images = finmap.empty }; pins = map version_in pins; stored = k })) (sym stored)
    (λ changes is q none apart apart'. stored_after pins kept mid.images q (settled.images q none)
    (no_image (finmap.get mid.images q) (touches changes is q apart apart'))))
