use Rattle.std.proofs.Common.{◌≤◌, arith}
use Rattle.cell_closure.proofs.CallerLemmas.{there, closing_end}
use Rattle.class_builder.proofs.upper.closure_of_all.Goals as goal

pub returns : goal.returns
returns c =
    let are = c.args.rows.now.are in
    let table = c.args.rows.now.table.now in
    let nos = c.args.rows.now.numbers.now in
    let le : table.dims ≤ c.dims.dim = omega arith in
    closing_end table are.table nos
    (there table nos are.there) are.some c.dims.dim c.dims.shared le
    (record { long = c.dims.invariant.long; done = c.dims.invariant.done })
