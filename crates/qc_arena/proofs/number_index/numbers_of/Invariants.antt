use Rattle.std.proofs.Common.{length, map, take, ◌≡◌, ◌≤◌}
use Rattle.std.specs.Vec.{vec_capacity}
use Rattle.qc_arena.specs.Entries.{entry_number}
use Rattle.qc_arena.proofs.number_index.numbers_of.Given as goal

abbrev pub invariant-entries : goal.invariant-entries
invariant-entries l = (l.numbers.items ≡ map entry_number (take l.at l.fn.changed.items))
    × (length l.fn.changed.items ≤ vec_capacity l.numbers)
