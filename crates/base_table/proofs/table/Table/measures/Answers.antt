use Rattle.std.proofs.Common.{◌∙◌}
use Rattle.base_table.proofs.Holding.{measures-view, valid-view}
use Rattle.base_table.proofs.table.Table.measures.Goals as goal

pub returns : goal.returns
returns c =
    record {
      value = c.measures.ensures
          ∙ measures-view c.self.invariant c.args.self.now c.self.view_is;
      valid
          = valid-view c.self.invariant c.args.self.now c.self.view_is;
    }
