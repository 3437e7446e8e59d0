-- Images that are put together, from the largest number down.
use Rattle.std.specs.Prelude.{◌≡◌, ℕ, ◌+◌, ◌-◌, ◌<◌, ◌≤◌, List, ◌++◌, Option, Some, None, IsSome, length, nat_eq, slice_index_or}
use Rattle.std.specs.Map.{lookup}
use Rattle.std.specs.List.Sorted.{IsNonDecreasingBy}
use Rattle.std.specs.Vec.{vec_capacity}
use Rattle.qc_arena.specs.Entries.{IsOnce, all_new, entry_number}
use Rattle.qc_arena.specs.Map.{Known}
use Rattle.qc_arena.specs.declared.sorted_images.SortedImages.{SortedImages}
use Rattle.qc_arena.specs.declared.sorted_images.Entry.{Entry}
use Rattle.qc_arena.specs.declared.sorted_images.Entry.TheVariants.{Changed, Added}

-- what there is in all
abbrev pub all_in : SortedImages → List (ℕ × Option Known)
all_in e = e.changed.items ++ all_new e.added.items

-- how many there are
abbrev pub count_in : SortedImages → ℕ
count_in e = length e.changed.items + length e.added.items

-- what an entry says of its number
abbrev pub entry_image : Entry → Option Known
entry_image (Changed image) = image
entry_image Added = None

-- which of the two lists an entry stands in
abbrev pub changed_in : Option Entry → ℕ
changed_in None = 0
changed_in (Some (Changed image)) = 1
changed_in (Some Added) = 0

abbrev pub added_in : Option Entry → ℕ
added_in None = 0
added_in (Some (Changed image)) = 0
added_in (Some Added) = 1

-- no number is as large, and the number before is the last, if there is one
pub record IsEnd (entries : List (ℕ × Option Known)) (end : ℕ) : Type 0 where
  pub none : end ≡ 0 → length entries ≡ 0
  pub some : (d : ℕ × Option Known) → 0 < end → (0 < length entries)
      × (entry_number (slice_index_or entries (length entries - 1) d) + 1 ≡ end)

-- each number stands once, and both lists rise
pub record AreRising (entries : SortedImages) : Type 0 where
  pub once : IsOnce (all_in entries)
  pub changed_rise : IsNonDecreasingBy entry_number entries.changed.items
  pub added_rise : IsNonDecreasingBy entry_number (all_new entries.added.items)

-- no number is larger
abbrev pub IsMost : List (ℕ × Option Known) → ℕ → Type 0
IsMost entries node = (q : ℕ) → node < q → lookup (nat_eq q) entries ≡ None

-- of a merged number nothing is left
abbrev pub AreApart : List (ℕ × Option Known) → List (ℕ × Option Known) → Type 0
AreApart merged rest = (q : ℕ) → IsSome (lookup (nat_eq q) merged) → lookup (nat_eq q) rest ≡ None

-- what holds while two are put together: of each merged number nothing is left, and there is room for what is left
pub record IsMerge (older later merged : SortedImages) : Type 0 where
  pub older_rise : AreRising older
  pub later_rise : AreRising later
  pub once : IsOnce (all_in merged)
  pub apart : AreApart (all_in merged) (all_in older ++ all_in later)
  pub changed : length merged.changed.items + (length older.changed.items + length later.changed.items)
      ≤ vec_capacity merged.changed
  pub added : length merged.added.items + (length older.added.items + length later.added.items)
      ≤ merged.added.capacity
