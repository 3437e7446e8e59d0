use Rattle.base_table.proofs.Holding.{count-view, valid-view}
use Rattle.base_table.proofs.table.Table.count.Goals as goal

pub returns : goal.returns
returns c =
    record {
      value = count-view c.self.invariant c.args.self.now c.self.view_is;
      valid = valid-view c.self.invariant c.args.self.now c.self.view_is;
    }
