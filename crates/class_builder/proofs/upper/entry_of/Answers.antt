use Rattle.std.proofs.Common.{sym}
use Rattle.cell_closure.proofs.CallerLemmas.{there, shared_there}
use Rattle.class_builder.proofs.Uppers.{covered_entry}
use Rattle.class_builder.proofs.upper.entry_of.Goals as goal

pub returns-in-Is-clause-value : goal.returns-in-Is-clause-value
returns-in-Is-clause-value c =
    sym (covered_entry _ _ c.args.group.now.upper.now c.args.dim c.in-Is.code
    (shared_there c.args.group.now.table.now c.args.group.now.is.under.table c.args.group.now.rows.now
    (there c.args.group.now.table.now c.args.group.now.rows.now c.args.group.now.is.under.there)
    c.args.group.now.is.under.some) c.args.group.now.is.under.covered
    (sym c.in-Is.ensures.value))
