-- What is stored for the versions.
use Rattle.std.specs.Prelude.{ℕ, ◌≡◌, ◌+◌, ◌*◌, ◌^◌, ◌<◌, ◌≤◌, ◌++◌, List, None, length}
use Rattle.std.specs.FinMap as finmap
use Rattle.std.specs.List.{AllByRecursion}
use Rattle.csv_load.specs.Batch.{deleted, inserted}
use Rattle.pinned_view.specs.Past.{first_image}
use Rattle.pinned_view.specs.Versions.{Versions}
use Rattle.warehouse.specs.InPlace.{IsApart, OfBatch, gone, with_codes}

-- a number that had an image in no list, and whose node, before and after, generalizes the tuple of no row that goes
-- or comes, has none afterwards
abbrev pub StoresNoOtherNodes : Versions → List ℕ → Versions → Type 0
StoresNoOtherNodes before bytes after =
    OfBatch before.now.state.schema bytes
    (λ changes. let rows = with_codes after.now.state.texts (gone (deleted changes) before.now.state.rows ++ inserted changes) in
    (q : ℕ) → first_image before.stored q ≡ None → IsApart rows before.now.tree q → IsApart rows after.now.tree q
    → first_image after.stored q ≡ None)

-- where each list has so few images, there are no more lists for each pin than the logarithm of that, and one more
abbrev pub HasFewLists : Versions → Type 0
HasFewLists held = (bits : ℕ) → AllByRecursion (λ images. finmap.len images + 2 < 2 ^ (bits + 1)) held.stored
    → length held.stored ≤ bits * length held.pins + 1
