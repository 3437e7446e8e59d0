use Rattle.std.proofs.Common.{◌≡◌, false, filter, get_or, map}
use Rattle.std.specs.List.{range_with_len}
use Rattle.base_table.specs.declared.table.RowNo.{RowNo}
use Rattle.base_table.proofs.presence.numbers_in.Given as goal

abbrev pub invariant-places : goal.invariant-places
invariant-places l = map (λ (no : RowNo). no.0) l.nos.items ≡ filter (λ k. get_or l.here.items k false)
    (range_with_len 0 l.place)
