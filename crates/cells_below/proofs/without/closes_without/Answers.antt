use Rattle.std.proofs.Common.{None, refl, set, subst, sym, ◌∙◌}
use Rattle.tree_search.specs.Found.{IsNumberOfCell, closure_in}
use Rattle.cells_below.proofs.Leads.{leads_some}
use Rattle.cells_below.proofs.Reached.{reached_without}
use Rattle.cells_below.proofs.without.closes_without.Goals as goal

pub returns-in-Some-clause-opens : goal.returns-in-Some-clause-opens
returns-in-Some-clause-opens g c = λ source h e.
    let upper = c.args.upper.now in
    let less = set upper.cell.now c.args.dim None in
    sym (leads_some _ _ upper.node.0 upper.cell.now upper.at_node source h less c.in-Some.found.0
    (subst (λ o. IsNumberOfCell upper.tree.now.tree o (closure_in source less)) (sym c.in-Some.ensures.walk)
    (reached_without _ source upper.cell.now c.args.node.0 c.args.dim c.requires.dim c.requires.node
    (c.requires.reached source h) (c.if-is_forced_in.ensures.stays refl))))
    ∙ e
