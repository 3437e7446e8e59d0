use Rattle.std.proofs.Common.{◌≡◌, vec_capacity}
use Rattle.base_table.proofs.Stretched.{AreShorter}
use Rattle.base_table.proofs.lines.shorten.Given as goal

abbrev pub invariant-lines : goal.invariant-lines
invariant-lines l = record {
  shorter : AreShorter l.width l.first l.lines l.fn.cells.items l.cells.items l.line;
  room : vec_capacity l.cells ≡ vec_capacity l.fn.cells;
}
