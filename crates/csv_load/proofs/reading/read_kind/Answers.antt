use Rattle.std.proofs.Common.{◌≡◌, arith, length, true}
use Rattle.csv_load.specs.Columns.{needed_names}
use Rattle.csv_load.proofs.Names.{needed-all}
use Rattle.csv_load.proofs.reading.read_kind.Goals as goal

pub needed-requires : goal.needed-requires
needed-requires c =
    let all : length c.args.row.now.columns.now.places.items ≡ length (needed_names true c.args.row.now.schema.now)
    = rw c.if-not-row.false at c.args.row.now.are.all in
    omega (arith, all, needed-all true c.args.row.now.schema.now, c.dims.ensures.count, c.measures.ensures)
