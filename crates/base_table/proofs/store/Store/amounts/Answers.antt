use Rattle.base_table.proofs.Columns.{amounts_fit, amounts-view, row-view}
use Rattle.std.proofs.Common.{ℕ, [], All, ◌≤◌, nat_abs, ◌∙◌, sym, subst}
use Rattle.cube_defs.specs.Rows.{Row}
use Rattle.base_table.proofs.store.Store.amounts.Goals as goal
use Rattle.cube_defs.specs.declared.limits.TheConstants.{MAX_AMOUNT}

pub line-requires : goal.line-requires
line-requires c =
    let m = c.self.inside in
    amounts_fit m.dims m.measures m.printer m.dims_then m.ids m.prints m.codes.items m.amounts.items _ c.self.invariant
    c.args.self.now c.self.view_is c.args.place c.requires

pub returns-clause-value : goal.returns-clause-value
returns-clause-value c =
    let m = c.self.inside in
    λ d. c.line.ensures.value
    ∙ amounts-view m.dims m.measures m.printer m.dims_then m.ids m.prints m.codes.items m.amounts.items _
    c.self.invariant c.args.self.now c.self.view_is c.args.place d c.requires

pub returns-clause-small : goal.returns-clause-small
returns-clause-small c =
    let m = c.self.inside in
    let d : Row ℕ = record { id = 0; tuple = []; amounts = [] } in
    subst (All (λ a. nat_abs a ≤ MAX_AMOUNT)) (sym (returns-clause-value c d))
    (row-view m.dims m.measures m.printer m.dims_then m.ids m.prints m.codes.items m.amounts.items _
    c.self.invariant c.args.self.now c.self.view_is c.args.place d c.requires).small
