use Rattle.std.proofs.Common.{None, ap, drop, get_or, length-drop, ◌∙◌, arith}
use Rattle.cells_below.proofs.Cells.{values-le}
use Rattle.cells_below.proofs.Turning.{turned_cell}
use Rattle.cells_below.proofs.numbers.turn_cell.Goals as goal

pub overflow_shr-from : goal.overflow_shr-from
overflow_shr-from c = omega (arith, values-le (drop c.dims.dim c.args.u.now), length-drop c.dims.dim c.args.u.now)

pub overflow_shr-to : goal.overflow_shr-to
overflow_shr-to c = overflow_shr-from c

pub entry_if_bit-requires-clause-bit : goal.entry_if_bit-requires-clause-bit
entry_if_bit-requires-clause-bit c
    = omega (arith, values-le (drop c.dims.dim c.args.u.now), length-drop c.dims.dim c.args.u.now)

pub overflow_add-k : goal.overflow_add-k
overflow_add-k c = omega (arith, values-le (drop c.dims.dim c.args.u.now), length-drop c.dims.dim c.args.u.now)

pub returns-then-from-k-clause-value : goal.returns-then-from-k-clause-value
returns-then-from-k-clause-value c =
    let at = c.dims.invariant in
    turned_cell c.args.from c.args.to c.dims.k c.if-from-k.true c.args.u.now c.dims.cell c.dims.dim at.k at.dims
    (λ j l. at.before j l ∙ ap (λ d. get_or d j None) c.requires.cell) at.written
