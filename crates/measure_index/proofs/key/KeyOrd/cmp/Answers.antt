use Rattle.std.proofs.Common.{◌∙◌}
use Rattle.measure_index.proofs.Whole.{same_order}
use Rattle.measure_index.proofs.key.KeyOrd.cmp.Goals as goal

pub returns-then-self-other : goal.returns-then-self-other
returns-then-self-other c = c.compare_numbers.ensures ∙ same_order c.args.self.now c.args.other.now c.if-self-other.true
