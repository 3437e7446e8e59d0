use Rattle.std.proofs.Common.{◌≡◌, ◌++◌, length, take}
use Rattle.std.specs.Int.{w32}
use Rattle.std.specs.List.{flat_map}
use Rattle.value_dict.specs.TextLists.{list_at}
use Rattle.cube_snapshot.specs.Format.{number}
use Rattle.cube_snapshot.specs.Parts.{text}
use Rattle.cube_snapshot.proofs.writing.put_texts.Given as goal

abbrev pub invariant-texts : goal.invariant-texts
invariant-texts l = l.out.items ≡ (l.fn.out.items ++ (number w32).put (length (list_at l.contents.dict.now l.dim)))
    ++ flat_map text.put (take l.code (list_at l.contents.dict.now l.dim))
