use Rattle.std.proofs.Common.{◌≤◌, vec_capacity}
use Rattle.base_table.proofs.Stretched.{AreLonger}
use Rattle.base_table.proofs.lines.lengthen.Given as goal

abbrev pub invariant-lines : goal.invariant-lines
invariant-lines l = record {
  longer : AreLonger l.width l.last l.lines l.fn.cells.items l.cells.items l.line;
  room : vec_capacity l.fn.cells ≤ vec_capacity l.cells;
}
