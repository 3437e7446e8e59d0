use Rattle.cell_closure.proofs.Closing.{zeroth}
use Rattle.cell_closure.proofs.Copies.{line_more}
use Rattle.cell_closure.proofs.sorted_rows.codes_of.Goals as goal

pub rows-preserved : goal.rows-preserved
rows-preserved c =
    let table = c.args.rows.now.table.now in
    let nos = c.args.rows.now.numbers.now in
    line_more (λ row. row.tuple) table nos c.rows.row-index c.codes.result.now c.rows.codes.items
    c.extend_from_slice.new.self.items c.rows-test.true (c.args.rows.now.there c.rows.row-index zeroth c.rows-test.true)
    c.codes.ensures.value c.rows.invariant c.in_ok-extend_from_slice.ensures.items
