-- Lists of edges by place.
use Rattle.std.specs.Prelude.{◌≡◌, ◌≢◌, ℕ, ◌+◌, ◌-◌, ◌<◌, ◌≤◌, List, [], Option, Some, None, is_some, length, slice_index_or, count_by}
use Rattle.slab.specs.Slab as slots
use Rattle.cube_defs.specs.Tree.{Edge}

-- the list, and no edges where there is none
abbrev pub list_in : Option (List (Edge ℕ ℕ)) → List (Edge ℕ ℕ)
list_in None = []
list_in (Some edges) = edges

abbrev pub list_at : slots.Slab (List (Edge ℕ ℕ)) → ℕ → List (Edge ℕ ℕ)
list_at s place = list_in (slots.get s place)

-- the place of the next list: the last free one, or the end if none is free
abbrev pub next_place : List (Option (List (Edge ℕ ℕ))) → List ℕ → ℕ
next_place lists free = slice_index_or free (length free - 1) (length lists)

-- the free places are those without a list, each once, and there is room for a list at each place
pub record AreLists (lists : List (Option (List (Edge ℕ ℕ)))) (free : List ℕ) (room lists_room free_room : ℕ) : Type 0 where
  pub vacant : (i : ℕ) → i < length free → slice_index_or lists (slice_index_or free i 0) None ≡ None
  pub within : (i : ℕ) → i < length free → slice_index_or free i 0 < length lists
  pub once : (i j : ℕ) → i < j → j < length free → slice_index_or free i 0 ≢ slice_index_or free j 0
  pub counted : count_by is_some lists + length free ≡ length lists
  pub few : length lists ≤ 4000000000
  pub placed : length lists ≤ room
  pub for_lists : room ≤ lists_room
  pub for_free : room ≤ free_room
