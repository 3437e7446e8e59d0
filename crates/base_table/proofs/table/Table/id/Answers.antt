use Rattle.std.proofs.Common.{◌≡◌, arith, ℕ, [], get_or}
use Rattle.cube_defs.specs.Rows.{Row}
use Rattle.base_table.proofs.Holding.{at-view, at_row, row-view}
use Rattle.base_table.proofs.table.Table.id.Goals as goal

pub id-requires : goal.id-requires
id-requires c =
    omega (
      arith,
      (at-view c.self.invariant c.args.self.now c.self.view_is c.args.row.0 c.requires).within,
      c.self.invariant.places,
    )

pub returns : goal.returns
returns c =
    let m = c.self.inside in
    let d : Row ℕ = record { id = 0; tuple = []; amounts = [] } in
    at_row c.args.self.now c.args.row.0 (get_or m.store.rows c.args.row.0 d) (λ r. c.id.result ≡ r.id)
    (row-view c.self.invariant c.args.self.now c.self.view_is c.args.row.0 d
    (at-view c.self.invariant c.args.self.now c.self.view_is c.args.row.0 c.requires)) (c.id.ensures d)
