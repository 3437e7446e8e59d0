use Rattle.std.proofs.Common.{◌+◌, ◌-◌, ◌*◌, ◌∙◌, arith}
use Rattle.base_table.proofs.Stretched.{shorter_step}
use Rattle.base_table.proofs.lines.shorten.Goals as goal

pub lines-preserved : goal.lines-preserved
lines-preserved c = record {
  shorter = shorter_step c.args.width c.args.first c.args.lines c.args.cells.now.items c.lines.cells.items
      c.copy_within.new.self.items c.lines.line
      (c.lines.line * c.args.width + c.args.first - c.lines.line * c.args.width)
      c.requires.first c.lines.invariant.shorter (omega arith) (omega arith) c.copy_within.ensures.items;
  room = c.copy_within.ensures.capacity ∙ c.lines.invariant.room;
}
