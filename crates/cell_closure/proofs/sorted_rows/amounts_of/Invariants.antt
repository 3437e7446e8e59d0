use Rattle.std.proofs.Common.{◌≡◌, flat_map, take}
use Rattle.base_table.specs.Places.{named}
use Rattle.cell_closure.proofs.sorted_rows.amounts_of.Given as goal

abbrev pub invariant-rows : goal.invariant-rows
invariant-rows l = l.amounts.items ≡ flat_map (λ row. row.amounts) (named l.rows.table.now (take l.row-index l.rows.numbers.now))
