use Rattle.std.proofs.Common.{◌≡◌, take}
use Rattle.cube_defs.specs.Cell.{cell_of}
use Rattle.base_table.proofs.lines.is_cell.Given as goal

abbrev pub invariant-codes : goal.invariant-codes
invariant-codes l = take l.i l.tuple ≡ cell_of (take l.i l.codes)
