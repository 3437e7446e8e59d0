use Rattle.std.proofs.Common.{arith, ℕ, [], get_or}
use Rattle.cube_defs.specs.Rows.{Row}
use Rattle.base_table.proofs.Holding.{at-view, at_row, measures-view, row-view}
use Rattle.base_table.proofs.table.Table.amount.Goals as goal

pub amount-requires-clause-place : goal.amount-requires-clause-place
amount-requires-clause-place c =
    omega (
      arith,
      (at-view c.self.invariant c.args.self.now c.self.view_is c.args.row.0 c.requires.row).within,
      c.self.invariant.places,
    )

pub amount-requires-clause-measure : goal.amount-requires-clause-measure
amount-requires-clause-measure c =
    omega (
      arith,
      measures-view c.self.invariant c.args.self.now c.self.view_is,
      c.requires.measure,
    )

pub returns : goal.returns
returns c =
    let m = c.self.inside in
    let d : Row ℕ = record { id = 0; tuple = []; amounts = [] } in
    at_row c.args.self.now c.args.row.0 (get_or m.store.rows c.args.row.0 d) _
    (row-view c.self.invariant c.args.self.now c.self.view_is c.args.row.0 d
    (at-view c.self.invariant c.args.self.now c.self.view_is c.args.row.0 c.requires.row)) (grind (arith, c.amount.ensures d))
