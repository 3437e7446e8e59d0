use Rattle.std.proofs.Common.{ap, ◌∙◌}
use Rattle.std.specs.Ordering.{is_lt}
use Rattle.measure_index.proofs.Whole.{same_order}
use Rattle.measure_index.proofs.key.Key.is_before.Goals as goal

pub returns-then-self-other : goal.returns-then-self-other
returns-then-self-other c = c.has_smaller_number.ensures
    ∙ ap is_lt (same_order c.args.self.now c.args.other.now c.if-self-other.true)
