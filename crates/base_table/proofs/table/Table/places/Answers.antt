use Rattle.std.proofs.Common.{arith}
use Rattle.base_table.proofs.Holding.{length-view, valid-view}
use Rattle.base_table.proofs.table.Table.places.Goals as goal

pub returns : goal.returns
returns c =
    record {
      value = omega (
        arith,
        c.len.ensures,
        length-view c.self.invariant c.args.self.now c.self.view_is,
      );
      valid
          = valid-view c.self.invariant c.args.self.now c.self.view_is;
    }
