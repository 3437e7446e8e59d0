use Rattle.std.proofs.Common.{sym, arith}
use Rattle.cell_core.proofs.CodesLemmas.{leq_from_points, leq_fails_at}
use Rattle.cell_core.proofs.codes.leq.Goals as goal

pub returns-then-c-i-2 : goal.returns-then-c-i-2
returns-then-c-i-2 c = sym (leq_fails_at _ _ c.loop-i.i c.requires c.loop-i-test.true c.if-c-i.true c.if-c-i-2.true)

pub returns : goal.returns
returns c = sym (leq_from_points _ _ c.requires (λ k l. c.loop-i.invariant k (omega arith)))
