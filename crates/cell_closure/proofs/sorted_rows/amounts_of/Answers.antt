use Rattle.cell_closure.proofs.Closing.{zeroth}
use Rattle.cell_closure.proofs.Copies.{line_more}
use Rattle.cell_closure.proofs.sorted_rows.amounts_of.Goals as goal

pub rows-preserved : goal.rows-preserved
rows-preserved c =
    let table = c.args.rows.now.table.now in
    let nos = c.args.rows.now.numbers.now in
    line_more (λ row. row.amounts) table nos c.rows.row-index c.amounts.result.now c.rows.amounts.items
    c.push_amounts.new.amounts.items c.rows-test.true (c.args.rows.now.there c.rows.row-index zeroth c.rows-test.true)
    c.amounts.ensures.value c.rows.invariant c.in_ok-push_amounts.ensures
