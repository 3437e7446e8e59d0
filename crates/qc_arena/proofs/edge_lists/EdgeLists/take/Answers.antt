use Rattle.std.proofs.Common.{arith}
use Rattle.std.proofs.lemmas.Grind.{common_steps}
use Rattle.qc_arena.proofs.edge_lists.EdgeLists.take.Goals as goal

pub returns-clause-taken : goal.returns-clause-taken
returns-clause-taken c = grind (arith, common_steps)

pub returns-clause-there : goal.returns-clause-there
returns-clause-there c = grind (arith, common_steps)

pub returns-clause-len : goal.returns-clause-len
returns-clause-len c = grind (arith, common_steps)

pub returns-clause-had : goal.returns-clause-had
returns-clause-had c = grind (arith, common_steps)

pub returns-clause-has : goal.returns-clause-has
returns-clause-has c = grind (arith, common_steps)
