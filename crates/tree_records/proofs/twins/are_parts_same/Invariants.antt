use Rattle.std.proofs.Common.{◌≡◌, map, take}
use Rattle.aggregates.specs.Views.{part_in}
use Rattle.tree_records.proofs.twins.are_parts_same.Given as goal

abbrev pub invariant-measures : goal.invariant-measures
invariant-measures l = map part_in (take l.k l.parts) ≡ map part_in (take l.k l.own)
