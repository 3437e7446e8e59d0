use Rattle.std.proofs.Common.{◌∙◌, sym, suc, ◌<◌, arith}
use Rattle.cell_closure.proofs.CallerLemmas.{there, shared_long}
use Rattle.class_builder.proofs.Uppers.{same_at, differs_at}
use Rattle.class_builder.proofs.upper.first_new_value.Goals as goal

pub returns-then-gains-clause-front : goal.returns-then-gains-clause-front
returns-then-gains-clause-front c
    = same_at c.dims.i _ c.args.group.now.upper.now
    (shared_long c.args.group.now.table.now c.args.group.now.is.under.table c.args.group.now.rows.now
    (there c.args.group.now.table.now c.args.group.now.rows.now c.args.group.now.is.under.there) c.args.group.now.is.under.some
    ∙ sym c.args.group.now.is.under.long) c.dims.invariant

pub returns-then-gains-clause-gains : goal.returns-then-gains-clause-gains
returns-then-gains-clause-gains c =
    let lt : c.dims.i < suc c.dims.i = omega arith in
    differs_at (suc c.dims.i) c.dims.i _ c.args.group.now.upper.now lt (c.gains.ensures.other c.if-gains.true)

pub returns-clause-none : goal.returns-clause-none
returns-clause-none c =
    same_at c.args.group.now.dim _ c.args.group.now.upper.now
    (shared_long c.args.group.now.table.now c.args.group.now.is.under.table c.args.group.now.rows.now
    (there c.args.group.now.table.now c.args.group.now.rows.now c.args.group.now.is.under.there)
    c.args.group.now.is.under.some ∙ sym c.args.group.now.is.under.long)
    (λ j l. c.dims.invariant j (omega arith))
