use Rattle.std.proofs.Common.{drop, arith, length-drop}
use Rattle.cells_below.proofs.Cells.{values-le}
use Rattle.cells_below.proofs.numbers.write_cell.Goals as goal

pub entry_if_bit-requires-clause-bit : goal.entry_if_bit-requires-clause-bit
entry_if_bit-requires-clause-bit c
    = omega (arith, values-le (drop c.dims.dim c.args.u.now), length-drop c.dims.dim c.args.u.now)

pub overflow_add-k : goal.overflow_add-k
overflow_add-k c = omega (arith, values-le (drop c.dims.dim c.args.u.now), length-drop c.dims.dim c.args.u.now)
