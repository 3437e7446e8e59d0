use Rattle.cell_closure.proofs.parts.run_end.Goals as goal

pub returns-then-keyed-i-clause-same : goal.returns-then-keyed-i-clause-same
returns-then-keyed-i-clause-same c = c.rows.invariant
