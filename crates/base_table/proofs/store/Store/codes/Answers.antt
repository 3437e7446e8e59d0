use Rattle.base_table.proofs.Columns.{codes_fit, tuple-view, row-view}
use Rattle.std.proofs.Common.{ℕ, [], All, ◌<◌, ◌∙◌, sym, subst}
use Rattle.cube_defs.specs.Rows.{Row}
use Rattle.base_table.proofs.store.Store.codes.Goals as goal

pub line-requires : goal.line-requires
line-requires c =
    let m = c.self.inside in
    codes_fit m.dims m.measures m.printer m.dims_then m.ids m.prints m.codes.items m.amounts.items _ c.self.invariant
    c.args.self.now c.self.view_is c.args.place c.requires

pub returns-clause-value : goal.returns-clause-value
returns-clause-value c =
    let m = c.self.inside in
    λ d. c.line.ensures.value
    ∙ tuple-view m.dims m.measures m.printer m.dims_then m.ids m.prints m.codes.items m.amounts.items _
    c.self.invariant c.args.self.now c.self.view_is c.args.place d c.requires

pub returns-clause-small : goal.returns-clause-small
returns-clause-small c =
    let m = c.self.inside in
    let d : Row ℕ = record { id = 0; tuple = []; amounts = [] } in
    subst (All (λ code. code < 4000000)) (sym (returns-clause-value c d))
    (row-view m.dims m.measures m.printer m.dims_then m.ids m.prints m.codes.items m.amounts.items _
    c.self.invariant c.args.self.now c.self.view_is c.args.place d c.requires).codes
