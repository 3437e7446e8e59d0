use Rattle.std.proofs.Common.{◌≡◌, ◌+◌, ◌∙◌, Some, ap, arith, suc}
use Rattle.cell_core.specs.declared.cell.NodeNo.{NodeNo}
use Rattle.cube_defs.specs.Cell.{cell_prefix}
use Rattle.cube_defs.specs.Tree.{cell_at}
use Rattle.drill_links.proofs.Downward.{edge_there, edge_to, stays}
use Rattle.drill_links.proofs.way.descend.Goals as goal
use Rattle.drill_links.proofs.way.descend.Goals.{in-Any, in-Is}

pub unwrap-node-requires : goal.unwrap-node-requires
unwrap-node-requires g c =
    edge_there c.args.arena.now.now c.args.target.now c.args.first c.args.last c.requires.way c.down.dim c.down.node.0
    c.in-Is.code (omega arith) (omega arith) c.in-Is.ensures.value c.down.invariant.at c.edge.result
    c.edge.ensures.value

pub down-preserved : goal.down-preserved
down-preserved g c = elim c.match-get.branch [
  | in-Any w ↦ record {
    at = ap (λ (k : NodeNo). cell_at c.args.arena.now.now k.0) w.node-is
        ∙ stays c.args.target.now c.down.dim (cell_at c.args.arena.now.now c.down.node.0) w.in-Any.ensures.value
        c.down.invariant.at;
    steps = omega (arith, w.steps-is, c.down.invariant.steps);
  }
  | in-Is w ↦ record {
    at = ap (λ (k : NodeNo). cell_at c.args.arena.now.now k.0) w.node-is
        ∙ edge_to c.args.arena.now.now c.args.target.now c.args.first c.args.last c.requires.way c.down.dim c.down.node.0
        w.in-Is.code (omega arith) (omega arith) w.in-Is.ensures.value c.down.invariant.at w.edge.result
        w.unwrap-node.result w.edge.ensures.value w.unwrap-node.ensures;
    steps = omega (arith, w.steps-is, w.edge.ensures.steps, c.down.invariant.steps);
  }
]

pub returns-after-get-clause-node : goal.returns-after-get-clause-node
returns-after-get-clause-node g c =
    let next : c.down.dim + 1 ≡ suc c.args.last = omega arith in
    elim c.match-get.branch [
      | in-Any w ↦
          ap (λ (k : NodeNo). cell_at c.args.arena.now.now k.0) w.node-is
          ∙ stays c.args.target.now c.down.dim (cell_at c.args.arena.now.now c.down.node.0) w.in-Any.ensures.value
          c.down.invariant.at
          ∙ ap (λ i. Some (cell_prefix i c.args.target.now)) next
      | in-Is w ↦
          ap (λ (k : NodeNo). cell_at c.args.arena.now.now k.0) w.node-is
          ∙ edge_to c.args.arena.now.now c.args.target.now c.args.first c.args.last c.requires.way c.down.dim
          c.down.node.0 w.in-Is.code (omega arith) (omega arith) w.in-Is.ensures.value c.down.invariant.at
          w.edge.result w.unwrap-node.result w.edge.ensures.value w.unwrap-node.ensures
          ∙ ap (λ i. Some (cell_prefix i c.args.target.now)) next
    ]

pub returns-after-get-clause-steps : goal.returns-after-get-clause-steps
returns-after-get-clause-steps g c = elim c.match-get.branch [
  | in-Any w ↦ omega (arith, w.steps-is, c.down.invariant.steps)
  | in-Is w ↦ omega (arith, w.steps-is, w.edge.ensures.steps, c.down.invariant.steps)
]
