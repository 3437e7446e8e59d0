use Rattle.std.proofs.Common.{sym, arith}
use Rattle.cell_core.proofs.CodesLemmas.{last_none, last_at}
use Rattle.cell_core.proofs.codes.last.Goals as goal

pub returns-then-c-i-clause-last : goal.returns-then-c-i-clause-last
returns-then-c-i-clause-last c
    = sym (last_at _ _ (omega arith) c.if-c-i.true (λ k m l. c.loop-i.invariant k (omega arith) l))

pub returns-clause-last : goal.returns-clause-last
returns-clause-last c = sym (last_none _ (λ k l. c.loop-i.invariant k (omega arith) l))
