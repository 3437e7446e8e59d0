use Rattle.std.proofs.Common.{◌≤◌, ◌<◌, ◌∙◌, arith}
use Rattle.cell_closure.proofs.Rows.{there}
use Rattle.cell_closure.proofs.Closing.{closing_step, closing_end, is_meet}
use Rattle.cell_closure.proofs.width.closure_in.Goals as goal

pub shared_codes-codes-requires : goal.shared_codes-codes-requires
shared_codes-codes-requires g c
    = (
      omega (arith, c.requires.small),
      c.requires.width,
    )

pub dims-preserved : goal.dims-preserved
dims-preserved g c =
    let are = c.args.rows.now.are in
    let table = c.args.rows.now.table.now in
    let nos = c.args.rows.now.numbers.now in
    let lt : c.dims.dim < table.dims = omega arith in
    let s = closing_step table c.dims-dim-end.ensures.valid nos
    (there table nos are.there) are.some c.dims.dim _ c.dims.shared
    c.set.new.self lt (c.of.ensures.value ∙ c.shared_codes-codes.ensures.value c.dims.dim lt)
    (record { long = c.dims.invariant.long; done = c.dims.invariant.done }) c.set.ensures.value in
    record { long = s.long; done = s.done }

pub returns-clause-closure : goal.returns-clause-closure
returns-clause-closure g c =
    let are = c.args.rows.now.are in
    let table = c.args.rows.now.table.now in
    let nos = c.args.rows.now.numbers.now in
    let le : table.dims ≤ c.dims.dim = omega arith in
    is_meet table c.dims-dim-end.ensures.valid nos
    (there table nos are.there) are.some c.dims.shared
    (closing_end table c.dims-dim-end.ensures.valid nos
    (there table nos are.there) are.some c.dims.dim c.dims.shared le
    (record { long = c.dims.invariant.long; done = c.dims.invariant.done }))
