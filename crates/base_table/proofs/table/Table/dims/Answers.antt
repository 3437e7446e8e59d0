use Rattle.std.proofs.Common.{◌∙◌}
use Rattle.base_table.proofs.Holding.{dims-view, valid-view}
use Rattle.base_table.proofs.table.Table.dims.Goals as goal

pub returns : goal.returns
returns c =
    record {
      value = c.dims.ensures
          ∙ dims-view c.self.invariant c.args.self.now c.self.view_is;
      valid
          = valid-view c.self.invariant c.args.self.now c.self.view_is;
    }
