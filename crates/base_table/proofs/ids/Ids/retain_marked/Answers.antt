use Rattle.std.proofs.Common.{◌≤◌, sym, subst}
use Rattle.std.specs.List.{All}
use Rattle.base_table.proofs.Columns.{All-picked}
use Rattle.base_table.proofs.ids.Ids.retain_marked.Goals as goal

pub invariant_of-self : goal.invariant_of-self
invariant_of-self c =
    let top = c.self.inside.top in
    subst (All (λ id. id ≤ top)) (sym c.retain_marked.ensures)
    (All-picked (λ id. id ≤ top) c.args.kept.now c.self.inside.chains c.self.invariant)
