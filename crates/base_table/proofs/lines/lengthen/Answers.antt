use Rattle.std.proofs.Common.{◌+◌, ◌-◌, ◌*◌, List, ap, arith, set, ℕ}
use Rattle.base_table.proofs.Stretched.{longer_step}
use Rattle.base_table.proofs.lines.lengthen.Goals as goal

pub lines-preserved : goal.lines-preserved
lines-preserved c =
    let line = c.lines.line - 1 in
    record {
      longer = longer_step c.args.width c.args.last c.args.lines c.args.cells.now.items c.lines.cells.items _
          c.lines.line line (line * c.args.width + c.args.width - line * c.args.width)
          (line * c.args.width + line + c.args.width)
          (omega arith) c.lines.invariant.longer (omega arith) (omega arith) (omega arith)
          (ap (λ (l : List ℕ). set l (line * c.args.width + line + c.args.width) c.args.last)
          c.copy_within.ensures.items);
      room = omega (arith, c.lines.invariant.room, c.copy_within.ensures.capacity);
    }
