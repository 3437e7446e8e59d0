use Rattle.std.proofs.Common.{◌≡◌, ◌≤◌, ◌-◌, ℕ, All, [], length, take}
use Rattle.value_dict.specs.TextLists.{list_at}
use Rattle.cube_snapshot.specs.Format.{get_times}
use Rattle.cube_snapshot.specs.Parts.{texts}
use Rattle.cube_snapshot.specs.Readers.{AreAllowed}
use Rattle.cube_snapshot.proofs.Looping.{with_prefix}
use Rattle.cube_snapshot.proofs.texts.read_dict.Given as goal

abbrev pub invariant-dims : goal.invariant-dims
invariant-dims l = record {
  max : l.dict.max ≡ l.fn.dict.max;
  count_is : length l.dict.lists ≡ length l.fn.dict.lists;
  allowed : All (AreAllowed l.fn.dict.max) (take l.dim l.dict.lists);
  left : (j : ℕ) → l.dim ≤ j → list_at l.dict j ≡ [];
  so_far : with_prefix texts (take l.dim l.dict.lists) (get_times texts (length l.fn.dict.lists - l.dim) l.rest)
      ≡ get_times texts (length l.fn.dict.lists) l.bytes;
}
