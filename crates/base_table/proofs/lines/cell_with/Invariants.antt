use Rattle.std.proofs.Common.{◌≡◌, length, take}
use Rattle.cube_defs.specs.Cell.{cell_of}
use Rattle.base_table.proofs.lines.cell_with.Given as goal

abbrev pub invariant-codes : goal.invariant-codes
invariant-codes l = record {
  dims : length l.cell ≡ length l.codes;
  put : take l.i l.cell ≡ cell_of (take l.i l.codes);
}
