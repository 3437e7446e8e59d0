use Rattle.std.proofs.Common.{◌≡◌, ◌++◌, take}
use Rattle.std.specs.List.{flat_map}
use Rattle.cube_snapshot.specs.Parts.{amount}
use Rattle.cube_snapshot.proofs.writing.put_amounts.Given as goal

abbrev pub invariant-amounts : goal.invariant-amounts
invariant-amounts l = l.out.items ≡ l.fn.out.items ++ flat_map amount.put (take l.value-index l.amounts)
