use Rattle.std.proofs.Common.{Ok, ◌≤◌, ◌+◌, ◌-◌, ◌++◌, ap, sym, subst, ◌∙◌, arith}
use Rattle.iceberg_query.specs.Subtree.{numbers, wanted}
use Rattle.iceberg_query.specs.Costs.{walk_cost}
use Rattle.iceberg_query.proofs.WalkCosts.{child_cost, first_cost, no_further_cost, other_cost, whole_cost}
use Rattle.iceberg_query.proofs.Walked.{all_edges, below_more, child_more, other_more, target_there}
use Rattle.iceberg_query.proofs.pick.+pick_descendants.Goals as goal
use Rattle.iceberg_query.proofs.pick.+pick_descendants.Goals.{then-is_parent+in-Ok, else-is_parent}

pub is_parent-requires : goal.is_parent-requires
is_parent-requires g t c
    = target_there _ _ c.dims-dims.ensures.rows.0 c.dims-dims.ensures.rows.1 c.args.node.0 c.edges.k _ c.requires
    c.edge_at-dim.ensures.value

pub edges-preserved : goal.edges-preserved
edges-preserved g t c = elim c.if-is_parent.branch [
  | then-is_parent+in-Ok w ↦ record {
    picked = ap (λ v. numbers v.items) w.picked-is
        ∙ child_more _ c.args.selection.now.ask.now c.args.node.0 (c.args.values - 1)
        (numbers c.args.picked.now.items) (numbers c.edges.picked.items) _ c.edges.k _ c.edge_at-dim.ensures.value
        c.edges.invariant.picked (sym c.is_parent.ensures.value ∙ w.if-is_parent.true) w.in-Ok.ensures.picked;
    steps = child_cost c.args.selection.now.tree.now.tree c.args.node.0 (c.args.values - 1) c.edges.k _
        c.args.steps.now c.edges.steps _ c.edge_at-dim.ensures.value
        (sym c.is_parent.ensures.value ∙ w.if-is_parent.true) c.edges.invariant.steps
        (omega (arith, w.steps-is, w.in-Ok.ensures.steps, c.is_parent.ensures.steps, c.edge_at-dim.ensures.steps));
  }
  | else-is_parent w ↦ record {
    picked = ap (λ v. numbers v.items) w.picked-is
        ∙ other_more _ c.args.selection.now.ask.now c.args.node.0 (c.args.values - 1)
        (numbers c.args.picked.now.items) (numbers c.edges.picked.items) c.edges.k _ c.edge_at-dim.ensures.value
        c.edges.invariant.picked (sym c.is_parent.ensures.value ∙ w.if-is_parent.false);
    steps = other_cost c.args.selection.now.tree.now.tree c.args.node.0 (c.args.values - 1) c.edges.k _
        c.args.steps.now c.edges.steps _ c.edge_at-dim.ensures.value
        (sym c.is_parent.ensures.value ∙ w.if-is_parent.false) c.edges.invariant.steps
        (omega (arith, w.steps-is, c.is_parent.ensures.steps, c.edge_at-dim.ensures.steps));
  }
]

pub returns-clause-picked : goal.returns-clause-picked
returns-clause-picked g t c =
    all_edges _ c.args.selection.now.ask.now c.args.node.0 (c.args.values - 1) (numbers c.args.picked.now.items)
    (numbers c.edges.picked.items) c.edges.k (omega (arith, c.edges-test.false, c.edge_count-k-end.ensures.value))
    c.edges.invariant.picked
    ∙ ap (λ ks. numbers c.args.picked.now.items ++ wanted c.args.selection.now.tree.now.tree c.args.selection.now.ask.now ks)
    (sym (below_more c.args.selection.now.tree.now.tree c.args.node.0 c.args.values (omega arith)))

pub returns-in-Ok-false-clause-picked : goal.returns-in-Ok-false-clause-picked
returns-in-Ok-false-clause-picked g t c =
    let none = c.in-Ok-false.ensures.none (ap Ok c.in-Ok-false.field-0-test) in
    c.in-Ok-false.ensures.picked ∙ ap (λ ks. numbers c.args.picked.now.items ++ ks) (none 0 ∙ sym (none c.args.values))

pub edges-init : goal.edges-init
edges-init g t c = record {
  picked = c.in-Ok-true.ensures.picked;
  steps = first_cost c.args.selection.now.tree.now.tree c.args.node.0 (c.args.values - 1) c.args.steps.now _
      (omega (arith, c.in-Ok-true.ensures.steps, c.edge_count-k-end.ensures.steps));
}

pub returns-in-Ok-false-clause-steps : goal.returns-in-Ok-false-clause-steps
returns-in-Ok-false-clause-steps g t c = no_further_cost c.args.selection.now.tree.now.tree c.args.values
    c.args.node.0 c.args.steps.now _ c.in-Ok-false.ensures.steps

pub returns-clause-steps : goal.returns-clause-steps
returns-clause-steps g t c =
    let tree = c.args.selection.now.tree.now.tree in
    subst (λ ks. c.edges.steps ≤ c.args.steps.now + walk_cost tree ks)
    (sym (below_more tree c.args.node.0 c.args.values (omega arith)))
    (whole_cost tree c.args.node.0 (c.args.values - 1) c.edges.k c.args.steps.now c.edges.steps
    (omega (arith, c.edges-test.false, c.edge_count-k-end.ensures.value, c.edges.auto.k-end)) c.edges.invariant.steps)
