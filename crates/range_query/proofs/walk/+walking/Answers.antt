use Rattle.std.proofs.Common.{rules, Some, None, length, ◌<◌, sym, ap, ◌∙◌, arith, refl}
use Rattle.std.specs.Ordering.{eq_by_cmp, nat_cmp}
use Rattle.qc_arena.specs.RecordReaders.{record_at}
use Rattle.tree_laws.specs.Walk.{by_forced}
use Rattle.range_query.proofs.Entering.{back_on, child_led, child_refused, child_taken, children_taken, goes_on}
use Rattle.range_query.proofs.Finding.{all_searched, finds_entered, finds_none}
use Rattle.range_query.proofs.Finding.{stands_ends, taken_all, taken_part}
use Rattle.range_query.proofs.Standing.{back, leads_edge, stands_any}
use Rattle.range_query.proofs.walk.+walking.Goals as goal

pub search-returns-in_default : goal.search-returns-in_default
search-returns-in_default g t c =
    finds_none _ _ c.args.at.node.0 c.args.cell.now c.args.at.dim c.requires.on.stands c.args.scan.now.limit
    c.args.scan.now.cells.now 1 c.requires.dim c.args.code _
    (leads_edge _ _ c.args.at.node.0 c.args.cell.now c.args.at.dim c.requires.on.stands c.args.code c.requires.dim)
    (sym c.in_default.ensures.value) c.requires.on.few (omega (arith, c.in_default.ensures.steps))

pub search-enter-requires : goal.search-enter-requires
search-enter-requires g t c κs within = (
  search rules,
  (
    within.0,
    (
      within.1,
      (
        goes_on _ _ c.args.at.node.0 c.args.cell.now c.args.at.dim c.requires.on.stands c.args.scan.now.limit
            c.args.scan.now.cells.now c.requires.dim c.requires.on.scan c.args.code c.in-Some.node.0
            (sym c.in-Some.ensures.value) c.args.cell.now refl c.args.hits.now.items c.requires.on.few,
        (
          omega (arith, c.requires.dim, c.requires.on.stands.long),
          (back (Some c.args.code) c.requires.on.stands c.requires.dim, c.requires.small),
        ),
      ),
    ),
  ),
)

pub search-returns : goal.search-returns
search-returns g t c =
    finds_entered _ _ c.args.at.node.0 c.args.cell.now c.args.at.dim c.requires.on.stands c.args.scan.now.limit
    c.args.scan.now.cells.now 1 c.requires.dim c.args.code _
    (leads_edge _ _ c.args.at.node.0 c.args.cell.now c.args.at.dim c.requires.on.stands c.args.code c.requires.dim)
    c.in-Some.node.0 _ (sym c.in-Some.ensures.value) (omega (arith, c.in-Some.ensures.steps)) c.enter.ensures

pub visit-add_hit-requires-clause-ends : goal.visit-add_hit-requires-clause-ends
visit-add_hit-requires-clause-ends g t c =
    stands_ends _ _ c.args.at.node.0 c.args.cell.now c.args.at.dim c.requires.stands
    (omega (arith, c.if-at-dims.true, c.dims.ensures.value, c.requires.scan.long))

pub visit-visit-requires : goal.visit-visit-requires
visit-visit-requires g t c κs within =
    let l : c.args.at.dim < g.T.Nodes.width c.args.scan.now.tree.now
    = omega (arith, c.if-at-dims.false, c.dims.ensures.value, c.requires.scan.long) in
    let leads = ap (by_forced (eq_by_cmp nat_cmp) c.args.at.node.0
    (record_at (g.T.Nodes.tree c.args.scan.now.tree.now) c.args.at.node.0) c.args.at.dim None)
    (sym c.forced.ensures.value)
    ∙ c.in-Some-child_in.ensures.child c.args.at.node.0
    (record_at (g.T.Nodes.tree c.args.scan.now.tree.now) c.args.at.node.0) in
    let at = stands_any _ _ c.args.at.node.0 c.args.cell.now c.args.at.dim c.requires.stands c.requires.scan.is_tree l
    c.in-Some-child_in.node.0 leads in
    (search rules, (within.0, (within.1, record { scan = c.requires.scan; stands = at; few = c.requires.few })))

pub visit-visit-requires-in-None : goal.visit-visit-requires-in-None
visit-visit-requires-in-None g t c κs within =
    let l : c.args.at.dim < g.T.Nodes.width c.args.scan.now.tree.now
    = omega (arith, c.if-at-dims.false, c.dims.ensures.value, c.requires.scan.long) in
    let leads = ap (by_forced (eq_by_cmp nat_cmp) c.args.at.node.0
    (record_at (g.T.Nodes.tree c.args.scan.now.tree.now) c.args.at.node.0) c.args.at.dim None)
    (sym c.forced.ensures.value)
    ∙ c.in-None.ensures.stays c.args.at.node.0 (record_at (g.T.Nodes.tree c.args.scan.now.tree.now) c.args.at.node.0) in
    let at = stands_any _ _ c.args.at.node.0 c.args.cell.now c.args.at.dim c.requires.stands c.requires.scan.is_tree l
    c.args.at.node.0 leads in
    (search rules, (within.0, (within.1, record { scan = c.requires.scan; stands = at; few = c.requires.few })))

pub visit_children-enter-requires : goal.visit_children-enter-requires
visit_children-enter-requires g t c κs within =
    let m : c.in-Some.child.place < length c.args.at.codes.now
    = omega (arith, c.in-Some.ensures.end) in (
      search rules,
      (
        within.0,
        (
          within.1,
          (
            goes_on _ _ c.args.at.node.0 c.args.cell.now c.args.at.dim c.requires.at.on.stands c.args.scan.now.limit
                c.args.scan.now.cells.now c.requires.at.dim c.requires.at.on.scan _ c.in-Some.child.node.0
                (child_led _ _ c.args.at.node.0 c.args.cell.now c.args.at.dim c.requires.at.on.stands c.args.scan.now.limit
                c.args.scan.now.cells.now c.requires.at.dim c.args.at.codes.now _ c.requires.children.are _ _ _
                c.in-Some.ensures.some m) c.children.cell c.children.invariant.0.cell c.children.hits.items
                c.children.invariant.0.few,
            (
              omega (
                arith,
                c.requires.at.dim,
                c.requires.at.on.stands.long,
                ap length c.children.invariant.0.cell,
              ),
              (
                back_on _ _ c.args.at.node.0 c.args.cell.now c.args.at.dim c.requires.at.on.stands c.args.scan.now.limit
                    c.args.scan.now.cells.now c.requires.at.dim _ c.children.cell c.children.invariant.0.cell,
                c.args.at.small c.in-Some.child.place 0 m,
              ),
            ),
          ),
        ),
      ),
    )

pub visit_children-returns-in-Err : goal.visit_children-returns-in-Err
visit_children-returns-in-Err g t c =
    child_refused _ _ c.args.at.node.0 c.args.cell.now c.args.at.dim c.requires.at.on.stands c.args.scan.now.limit
    c.args.scan.now.cells.now c.requires.at.dim c.args.at.codes.now _ c.requires.children.are
    (omega (arith, c.requires.at.dim, c.requires.at.on.scan.long)) c.requires.at.allowed _ _ _ _ c.in-Some.ensures.some
    c.in-Some.ensures.before (omega (arith, c.in-Some.ensures.end)) c.children.invariant.0
    c.in-Err.ensures

pub visit_children-children-preserved : goal.visit_children-children-preserved
visit_children-children-preserved g t c = (
  child_taken _ _ c.args.at.node.0 c.args.cell.now c.args.at.dim c.requires.at.on.stands c.args.scan.now.limit
      c.args.scan.now.cells.now c.requires.at.dim c.args.at.codes.now _ c.requires.children.are _ _ _
      c.in-Some.ensures.some c.in-Some.ensures.before (omega (arith, c.in-Some.ensures.end))
      c.children.invariant.0 c.in-Ok.ensures,
  omega (arith, c.in-Some.ensures.end),
)

pub visit_children-returns : goal.visit_children-returns
visit_children-returns g t c =
    children_taken _ _ c.args.at.node.0 c.args.cell.now c.args.at.dim c.requires.at.on.stands c.args.scan.now.limit
    c.args.scan.now.cells.now c.requires.at.dim c.args.at.codes.now _ c.requires.children.are
    (omega (arith, c.requires.at.dim, c.requires.at.on.scan.long)) c.requires.at.allowed _ c.children.invariant.1
    c.in_default.ensures.none c.children.invariant.0

pub visit_each-returns-in-Err : goal.visit_each-returns-in-Err
visit_each-returns-in-Err g t c =
    taken_part _ _ c.args.at.node.0 c.args.cell.now c.args.at.dim c.requires.on.stands c.args.scan.now.limit
    c.args.scan.now.cells.now 1 c.args.at.codes.now
    (omega (arith, c.requires.dim, c.requires.on.scan.long)) c.requires.allowed 0
    (all_searched _ _ c.args.at.node.0 c.args.cell.now c.args.at.dim c.requires.on.stands c.args.scan.now.limit
    c.args.scan.now.cells.now c.args.at.codes.now) _
    (omega (arith, c.codes-test.true)) c.codes.invariant c.in-Err.ensures

pub visit_each-returns : goal.visit_each-returns
visit_each-returns g t c =
    taken_all _ _ c.args.at.node.0 c.args.cell.now c.args.at.dim c.requires.on.stands c.args.scan.now.limit
    c.args.scan.now.cells.now 1 c.args.at.codes.now
    (omega (arith, c.requires.dim, c.requires.on.scan.long)) c.requires.allowed 0
    (all_searched _ _ c.args.at.node.0 c.args.cell.now c.args.at.dim c.requires.on.stands c.args.scan.now.limit
    c.args.scan.now.cells.now c.args.at.codes.now)
    (omega (arith, c.codes-test.false)) c.codes.invariant
