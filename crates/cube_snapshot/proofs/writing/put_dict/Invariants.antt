use Rattle.std.proofs.Common.{◌≡◌, ◌++◌, take}
use Rattle.std.specs.List.{flat_map}
use Rattle.cube_snapshot.specs.Parts.{texts}
use Rattle.cube_snapshot.proofs.writing.put_dict.Given as goal

abbrev pub invariant-dims : goal.invariant-dims
invariant-dims l = l.out.items ≡ l.fn.out.items ++ flat_map texts.put (take l.dim l.contents.dict.now.lists)
