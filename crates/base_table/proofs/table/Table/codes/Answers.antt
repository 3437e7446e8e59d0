use Rattle.std.proofs.Common.{◌≡◌, arith, ℕ, [], get_or}
use Rattle.cube_defs.specs.Rows.{Row}
use Rattle.base_table.proofs.Holding.{at-view, at_row, row-view}
use Rattle.base_table.proofs.table.Table.codes.Goals as goal

pub codes-requires : goal.codes-requires
codes-requires c =
    omega (
      arith,
      (at-view c.self.invariant c.args.self.now c.self.view_is c.args.row.0 c.requires.row).within,
      c.self.invariant.places,
    )

pub returns-clause-value : goal.returns-clause-value
returns-clause-value c =
    let m = c.self.inside in
    let d : Row ℕ = record { id = 0; tuple = []; amounts = [] } in
    at_row c.args.self.now c.args.row.0 (get_or m.store.rows c.args.row.0 d) (λ r. c.codes.result.now ≡ r.tuple)
    (row-view c.self.invariant c.args.self.now c.self.view_is c.args.row.0 d
    (at-view c.self.invariant c.args.self.now c.self.view_is c.args.row.0 c.requires.row)) (c.codes.ensures.value d)
