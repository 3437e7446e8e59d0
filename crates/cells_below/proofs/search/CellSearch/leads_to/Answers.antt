use Rattle.std.proofs.Common.{subst, sym, arith}
use Rattle.tree_laws.proofs.CallerLemmas.{there}
use Rattle.cells_below.specs.Closed.{IsReached}
use Rattle.cells_below.specs.Search.{IsOnWay}
use Rattle.cells_below.proofs.Reached.{reached_first}
use Rattle.cells_below.proofs.Ways.{closes_unrooted, way_pushed}
use Rattle.cells_below.proofs.search.CellSearch.leads_to.Goals as goal
use Rattle.cells_below.proofs.search.CellSearch.leads_to.Goals.{then-self-eq0+in-Some, else-self-eq0}

pub returns-in_default-clause-value : goal.returns-in_default-clause-value
returns-in_default-clause-value g c = λ source h.
    sym (closes_unrooted _ source c.args.upper.now.cell.now c.args.self.now.cell _ h c.requires.way.long
    c.in_default.ensures.none)

pub goes_to-requires-clause-way : goal.goes_to-requires-clause-way
goes_to-requires-clause-way g c =
    let tree = c.args.upper.now.tree.now.tree in
    let s = c.args.self.now in
    let long = c.requires.way.long in
    elim c.if-self-eq0.branch [
      | then-self-eq0+in-Some w ↦ subst (IsOnWay _ tree c.args.upper.now.cell.now) (sym w.self-is)
          (way_pushed _ tree _ s c.requires.way w.push.new.self w.in-Some.root.0 (omega (arith, w.if-self-eq0.true))
          w.push.ensures.cell w.push.ensures.number w.push.ensures.known w.push.ensures.here w.push.ensures.others
          (there tree w.in-Some.root.0 _ w.in-Some.ensures.some)
          (λ source h. subst (IsReached tree source s.cell w.in-Some.root.0) (sym w.if-self-eq0.true)
          (reached_first tree source s.cell _ h long w.in-Some.root.0 w.in-Some.ensures.some)))
      | else-self-eq0 w ↦ subst (IsOnWay _ tree c.args.upper.now.cell.now) (sym w.self-is) c.requires.way
    ]
