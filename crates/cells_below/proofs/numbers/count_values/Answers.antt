use Rattle.std.proofs.Common.{drop, arith, length-drop}
use Rattle.cells_below.proofs.Cells.{values-le}
use Rattle.cells_below.proofs.numbers.count_values.Goals as goal

pub overflow_add-count : goal.overflow_add-count
overflow_add-count c = omega (arith, values-le (drop c.dims.dim c.args.u.now), length-drop c.dims.dim c.args.u.now)

pub returns-clause-few : goal.returns-clause-few
returns-clause-few c = omega (
  arith,
  c.dims.invariant,
  values-le (drop c.dims.dim c.args.u.now),
  length-drop c.dims.dim c.args.u.now,
)
