use Rattle.base_table.proofs.Holding.{valid-view}
use Rattle.base_table.proofs.table.Table.recall_invariant.Goals as goal

pub returns : goal.returns
returns c =
    valid-view c.self.invariant c.args.self.now c.self.view_is
