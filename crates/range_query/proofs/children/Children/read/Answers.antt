use Rattle.std.proofs.Common.{take, refl, ap, subst, ◌∙◌, sym, arith}
use Rattle.range_query.specs.Children.{AreChildren}
use Rattle.qc_arena.specs.RecordReaders.{record_at}
use Rattle.range_query.proofs.ChildLists.{read_more, read_same}
use Rattle.range_query.proofs.children.Children.read.Goals.{then-at-dim+in-Some, then-at-dim+in_default, else-at-dim}
use Rattle.range_query.proofs.children.Children.read.Goals as goal

pub edges-preserved : goal.edges-preserved
edges-preserved g c = elim c.if-at-dim.branch [
  | then-at-dim+in-Some w ↦ (
    read_more c.args.codes.now c.args.dim (record_at (g.T.Nodes.tree c.args.tree.now) c.args.node.0).edges c.edges.k _
        c.edge_at-at.ensures.value _ c.edges.invariant.0 c.requires.distinct
        (record { place = w.in-Some.place; node = c.edge_at-at.result.2 }) w.in-Some.ensures.found w.if-at-dim.true refl _
        (ap (λ x. take x.len x.items) w.self-is ∙ w.push.ensures.items),
    omega (arith, ap (λ x. x.len) w.self-is, w.push.ensures.len, c.edges.invariant.1),
    omega (arith, c.edge_at-at.ensures.steps, c.edges.invariant.2),
  )
  | then-at-dim+in_default w ↦ (
    read_same c.args.codes.now c.args.dim (record_at (g.T.Nodes.tree c.args.tree.now) c.args.node.0).edges c.edges.k _
        c.edge_at-at.ensures.value _
        (subst (λ x. AreChildren c.args.codes.now c.args.dim
        (take c.edges.k (record_at (g.T.Nodes.tree c.args.tree.now) c.args.node.0).edges) (take x.len x.items))
        (sym w.self-is) c.edges.invariant.0)
        (λ k e. absurd (w.in_default.ensures.none k e)),
    omega (arith, ap (λ x. x.len) w.self-is, c.edges.invariant.1),
    omega (arith, c.edge_at-at.ensures.steps, c.edges.invariant.2),
  )
  | else-at-dim w ↦ (
    read_same c.args.codes.now c.args.dim (record_at (g.T.Nodes.tree c.args.tree.now) c.args.node.0).edges c.edges.k _
        c.edge_at-at.ensures.value _
        (subst (λ x. AreChildren c.args.codes.now c.args.dim
        (take c.edges.k (record_at (g.T.Nodes.tree c.args.tree.now) c.args.node.0).edges) (take x.len x.items))
        (sym w.self-is) c.edges.invariant.0)
        (λ k e. w.if-at-dim.false),
    omega (arith, ap (λ x. x.len) w.self-is, c.edges.invariant.1),
    omega (arith, c.edge_at-at.ensures.steps, c.edges.invariant.2),
  )
]
