use Rattle.std.proofs.Common.{◌≡◌, arith, ℕ, [], get_or}
use Rattle.cube_defs.specs.Rows.{Row}
use Rattle.base_table.proofs.Holding.{at-view, at_row, dims-view, row-view}
use Rattle.base_table.proofs.table.Table.code.Goals as goal

pub code-requires-clause-place : goal.code-requires-clause-place
code-requires-clause-place c =
    omega (
      arith,
      (at-view c.self.invariant c.args.self.now c.self.view_is c.args.row.0 c.requires.row).within,
      c.self.invariant.places,
    )

pub code-requires-clause-dim : goal.code-requires-clause-dim
code-requires-clause-dim c =
    omega (
      arith,
      dims-view c.self.invariant c.args.self.now c.self.view_is,
      c.requires.dim,
    )

pub returns-clause-value : goal.returns-clause-value
returns-clause-value c =
    let m = c.self.inside in
    let d : Row ℕ = record { id = 0; tuple = []; amounts = [] } in
    at_row c.args.self.now c.args.row.0 (get_or m.store.rows c.args.row.0 d)
    (λ r. c.code.result ≡ get_or r.tuple c.args.dim 0)
    (row-view c.self.invariant c.args.self.now c.self.view_is c.args.row.0 d
    (at-view c.self.invariant c.args.self.now c.self.view_is c.args.row.0 c.requires.row)) (c.code.ensures.value d)
