use Rattle.std.proofs.Common.{ap, subst, sym, ◌∙◌, arith}
use Rattle.cell_core.specs.Entry.{value_in}
use Rattle.tree_search.proofs.CallerLemmas.{next_there}
use Rattle.cells_below.specs.Closed.{IsReached, has_closure_in}
use Rattle.cells_below.specs.Search.{node_before}
use Rattle.cells_below.proofs.Leads.{leads_some}
use Rattle.cells_below.proofs.Reached.{reached_next}
use Rattle.cells_below.proofs.Ways.{at_end, closes_stopped, stands_reached, stands_there, way_pushed}
use Rattle.cells_below.proofs.search.CellSearch.goes_to.Goals as goal

pub bounds-self-self : goal.bounds-self-self
bounds-self-self g c = omega (arith, c.requires.way.few, c.dims-dims.ensures.few)

pub returns-in_default-clause-value : goal.returns-in_default-clause-value
returns-in_default-clause-value g c = λ source h.
    let u = c.args.upper.now.cell.now in
    let at = c.dims.invariant in
    let s = c.dims.self in
    sym (closes_stopped _ source u s.cell c.dims.node.0 c.dims.dim
    (stands_reached _ _ _ s at.way c.dims.dim c.dims.node.0 at.known at.node source h)
    (value_in c.get.result) (omega (arith, at.way.long))
    (stands_there _ _ _ s at.way c.dims.dim c.dims.node.0 at.known at.node) c.get.ensures.value
    (sym c.in_default.ensures.value))
    ∙ ap (has_closure_in source u) at.cell

pub dims-preserved : goal.dims-preserved
dims-preserved g c =
    let tree = c.args.upper.now.tree.now.tree in
    let at = c.dims.invariant in
    let s = c.dims.self in
    let rows = c.dims-dims.ensures.rows in
    let there = stands_there _ tree _ s at.way c.dims.dim c.dims.node.0 at.known at.node in
    record {
      way = way_pushed _ tree _ s at.way c.push.new.self c.in-Some.next.0 (omega (arith, at.known)) c.push.ensures.cell
          c.push.ensures.number c.push.ensures.known c.push.ensures.here c.push.ensures.others
          (next_there _ _ rows.0 rows.1 c.dims.node.0 c.dims.dim (value_in c.get.result) c.in-Some.next.0 there
          (sym c.in-Some.ensures.value))
          (λ source h. subst (IsReached tree source s.cell c.in-Some.next.0) (sym at.known)
          (reached_next tree source s.cell c.dims.node.0 c.dims.dim (omega (arith, at.way.long)) there
          (stands_reached _ tree _ s at.way c.dims.dim c.dims.node.0 at.known at.node source h) (value_in c.get.result)
          c.in-Some.next.0 c.get.ensures.value (sym c.in-Some.ensures.value)));
      known = omega (arith, at.known, c.push.ensures.known);
      node = sym (ap (node_before c.push.new.self.nodes) (sym at.known) ∙ c.push.ensures.here);
      cell = c.push.ensures.cell ∙ at.cell;
      steps = omega arith;
    }

pub returns-clause-value : goal.returns-clause-value
returns-clause-value g c = λ source h.
    let upper = c.args.upper.now in
    let at = c.dims.invariant in
    leads_some _ _ upper.node.0 upper.cell.now upper.at_node source h c.args.self.now.cell c.dims.node.0
    (at_end _ source upper.cell.now c.args.self.now.cell c.dims.node.0 c.dims.dim
    (subst (λ v. IsReached upper.tree.now.tree source v c.dims.node.0 c.dims.dim) at.cell
    (stands_reached _ _ _ c.dims.self at.way c.dims.dim c.dims.node.0 at.known at.node source h)) (omega (arith, c.requires.way.long)))
