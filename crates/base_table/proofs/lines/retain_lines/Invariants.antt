use Rattle.base_table.proofs.Widths.{AreKept}
use Rattle.base_table.proofs.lines.retain_lines.Given as goal

abbrev pub invariant-lines : goal.invariant-lines
invariant-lines g l = AreKept l.width l.kept l.fn.cells.items l.cells.items l.i l.from l.to
