use Rattle.std.proofs.Common.{◌≡◌, ◌-◌, length, set}
use Rattle.value_dict.specs.TextLists.{list_at}
use Rattle.cube_snapshot.specs.Format.{get_times}
use Rattle.cube_snapshot.specs.Parts.{text}
use Rattle.cube_snapshot.specs.Readers.{AreAllowed}
use Rattle.cube_snapshot.proofs.Looping.{with_prefix}
use Rattle.cube_snapshot.proofs.texts.learn_texts.Given as goal

abbrev pub invariant-texts : goal.invariant-texts
invariant-texts l = record {
  lists : l.dict ≡ record l.fn.dict { lists = set l.fn.dict.lists l.dim (list_at l.dict l.dim) };
  count_is : length (list_at l.dict l.dim) ≡ l.place;
  allowed : AreAllowed l.fn.dict.max (list_at l.dict l.dim);
  so_far : with_prefix text (list_at l.dict l.dim) (get_times text (l.count - l.place) l.rest)
      ≡ get_times text l.count l.bytes;
}
