use Rattle.std.proofs.Common.{◌≡◌, ◌∙◌, None, Some, arith, sym}
use Rattle.cell_closure.proofs.CallerLemmas.{all_share, shared_there, there}
use Rattle.class_builder.proofs.Uppers.{covered_entry, first_code, lone_code}
use Rattle.class_builder.proofs.upper.gains.Goals as goal

pub returns-in-Is-clause-same : goal.returns-in-Is-clause-same
returns-in-Is-clause-same c = λ e.
    covered_entry _ _ c.args.group.now.upper.now c.args.dim _
    (shared_there c.args.group.now.table.now c.args.group.now.is.under.table c.args.group.now.rows.now
    (there c.args.group.now.table.now c.args.group.now.rows.now c.args.group.now.is.under.there)
    c.args.group.now.is.under.some) c.args.group.now.is.under.covered
    (sym c.in-Is.ensures.value) ∙ c.in-Is.ensures.value

pub returns-then-group-eq1-clause-other : goal.returns-then-group-eq1-clause-other
returns-then-group-eq1-clause-other c = λ _ e.
    let under = c.args.group.now.is.under in
    let t = c.args.group.now.table.now in
    let nos = c.args.group.now.rows.now in
    let both : None ≡ Some (first_code t c.args.dim nos)
    = c.in-Any.ensures.value ∙ sym e
    ∙ all_share t under.table nos (there t nos under.there) under.some c.args.dim (first_code t c.args.dim nos)
    c.requires (lone_code t c.args.dim nos (omega (arith, c.if-group-eq1.true))) in
    cc
