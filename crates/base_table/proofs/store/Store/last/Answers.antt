use Rattle.base_table.proofs.Columns.{ids-view}
use Rattle.std.proofs.Common.{◌∙◌, ap, nat_eq}
use Rattle.base_table.proofs.store.Store.last.Goals as goal
use Rattle.base_table.specs.Last.{last_of}

pub returns : goal.returns
returns c =
    let m = c.self.inside in
    c.last.ensures ∙ ap (last_of (nat_eq c.args.id))
    (ids-view m.dims m.measures m.printer m.dims_then m.ids m.prints m.codes.items m.amounts.items _
    c.self.invariant c.args.self.now c.self.view_is)
