use Rattle.std.proofs.Common.{arith}
use Rattle.std.proofs.lemmas.List.{take_all}
use Rattle.quotient_lattice.proofs.rolling.most_general_of.Goals as goal

pub returns : goal.returns
returns c = rw (take_all c.met.k c.args.met.now.items (omega arith)) at c.met.invariant
