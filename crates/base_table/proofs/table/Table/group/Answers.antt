use Rattle.std.proofs.Common.{◌∙◌}
use Rattle.base_table.proofs.Holding.{rows-view, measures-view}
use Rattle.base_table.proofs.table.Table.group.Goals as goal
use Rattle.base_table.specs.Places.{total_of, with_tuple}

pub returns-clause-value : goal.returns-clause-value
returns-clause-value c =
    c.group_in.ensures.value
    ∙ (λ j. total_of (measures-view c.self.invariant c.args.self.now c.self.view_is j)
    (with_tuple (rows-view c.self.invariant c.args.self.now c.self.view_is j) c.args.tuple.now))
