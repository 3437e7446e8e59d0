-- What finds a number among before-images.
use Rattle.std.specs.Prelude.{◌≡◌, ℕ, ◌<◌, List, Option, length, map}
use Rattle.qc_arena.specs.Entries.{entry_number}
use Rattle.qc_arena.specs.Map.{Known}
use Rattle.qc_arena.specs.Marks.{AreMarked}
use Rattle.qc_arena.specs.declared.number_index.NumberIndex.{NumberIndex}

-- an index has the numbers of the entries, and the bits of these and of the new nodes' numbers are set
pub record IsIndexOf (index : NumberIndex) (changed : List (ℕ × Option Known)) (added : List ℕ) : Type 0 where
  pub numbers : index.numbers.items ≡ map entry_number changed
  pub some : 0 < length index.marks.words.items
  pub changed_marked : AreMarked index.marks.words.items index.numbers.items
  pub added_marked : AreMarked index.marks.words.items added
