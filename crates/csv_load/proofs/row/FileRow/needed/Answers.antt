use Rattle.std.proofs.Common.{arith}
use Rattle.csv_load.proofs.row.FileRow.needed.Goals as goal

pub field-requires : goal.field-requires
field-requires c = omega (arith, c.args.self.now.are.within c.args.column 0 c.requires, c.args.self.now.wide)
