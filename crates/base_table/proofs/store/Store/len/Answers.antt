use Rattle.base_table.proofs.Columns.{length-view}
use Rattle.std.proofs.Common.{◌∙◌, sym}
use Rattle.base_table.proofs.store.Store.len.Goals as goal

pub returns : goal.returns
returns c =
    let m = c.self.inside in
    c.len.ensures ∙ sym (length-view m.dims m.measures m.printer m.dims_then m.ids m.prints m.codes.items
    m.amounts.items _ c.self.invariant c.args.self.now c.self.view_is)
