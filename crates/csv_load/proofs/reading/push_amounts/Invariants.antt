use Rattle.std.proofs.Common.{◌≡◌, ◌+◌, length, drop}
use Rattle.csv_load.specs.Files.{amounts_in}
use Rattle.csv_load.specs.FileRows.{needed_of}
use Rattle.csv_load.proofs.Amounts.{amounts_with}
use Rattle.csv_load.proofs.reading.push_amounts.Given as goal

abbrev pub invariant-loop-measure : goal.invariant-loop-measure
invariant-loop-measure l =
    let fields = needed_of l.row in
    let first = 1 + length l.row.schema.now.dims in
    amounts_with l.amounts.items (amounts_in (drop l.measure l.row.schema.now.measures) (drop (first + l.measure) fields))
    ≡ amounts_with l.initial.amounts.items (amounts_in l.row.schema.now.measures (drop first fields))
