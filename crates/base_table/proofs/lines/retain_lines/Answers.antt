use Rattle.std.proofs.Common.{◌∙◌, ◌+◌, ◌-◌, ap, arith, Vec, Global}
use Rattle.base_table.proofs.Widths.{fits_line, keep_line, skip_line}
use Rattle.base_table.proofs.lines.retain_lines.Goals as goal
use Rattle.base_table.proofs.lines.retain_lines.Goals.{then-kept-i, else-kept-i}

pub copy_within-requires-clause-in_bounds : goal.copy_within-requires-clause-in_bounds
copy_within-requires-clause-in_bounds g c =
    omega (
      arith,
      fits_line c.args.width c.args.kept.now c.args.cells.now.items c.lines.cells.items c.lines.i
          c.lines.from c.lines.to c.lines.invariant c.lines-test.true,
    )

pub lines-preserved : goal.lines-preserved
lines-preserved g c =
    let items = λ (v : Vec g.row.T.Denot Global). v.items in
    elim c.if-kept-i.branch [
      | then-kept-i w ↦ keep_line c.args.width c.args.kept.now c.args.cells.now.items c.lines.cells.items
          c.if-kept-i.cells.items c.lines.i c.lines.from c.lines.to c.if-kept-i.to
          (c.lines.from + c.args.width - c.lines.from)
          c.lines.invariant c.lines-test.true w.if-kept-i.true (omega arith) w.to-is (ap items w.cells-is
          ∙ w.copy_within.ensures.items)
      | else-kept-i w ↦ skip_line c.args.width c.args.kept.now c.args.cells.now.items c.lines.cells.items
          c.if-kept-i.cells.items c.lines.i c.lines.from c.lines.to c.if-kept-i.to
          c.lines.invariant c.lines-test.true w.if-kept-i.false (ap items w.cells-is) w.to-is
    ]
