use Rattle.std.proofs.Common.{◌≡◌, ◌+◌, ◌*◌, ◌^◌, ◌≤◌, Some, filter, length, map, ◌∙◌, ap, arith}
use Rattle.std.specs.List.{range_with_len}
use Rattle.std.proofs.lemmas.Nat.{one_shl}
use Rattle.cube_defs.specs.Tree.{cell_at}
use Rattle.cells_below.specs.Numbers.{cell_of_number}
use Rattle.quotient_lattice.specs.Joined.{joins}
use Rattle.quotient_lattice.proofs.Numbers.{nodes_more}
use Rattle.quotient_lattice.proofs.Turns.{steps_all}
use Rattle.quotient_lattice.proofs.upward.parents_by_marks.Goals as goal

pub numbers-preserved : goal.numbers-preserved
numbers-preserved g c = record {
  nodes = λ source h.
      let upper = c.args.upper.now in
      nodes_more (λ k. cell_at upper.tree.now.tree k.0) upper.cell.now
      (joins source upper.cell.now) c.numbers.m
      c.numbers.nodes.items c.push_some.new.nodes.items c.parent_at-node.result
      c.in-Ok.ensures (c.numbers.invariant.nodes source h) (c.parent_at-node.ensures.value source h);
  steps = omega (arith, c.numbers.invariant.steps, c.parent_at-node.ensures.steps);
}

pub returns-clause-nodes : goal.returns-clause-nodes
returns-clause-nodes g c = λ source h.
    let upper = c.args.upper.now in
    let end : c.numbers.m ≡ 2 ^ upper.values = omega (arith, one_shl upper.values 32 (omega arith)) in
    c.numbers.invariant.nodes source h
    ∙ ap (λ n. map (λ m. Some (cell_of_number upper.cell.now m))
    (filter (joins source upper.cell.now) (range_with_len 0 n))) end

pub returns-in-Err-clause-steps : goal.returns-in-Err-clause-steps
returns-in-Err-clause-steps g c =
    let d = c.args.upper.now.values in
    let each = 2 * length c.args.upper.now.cell.now + 2 in
    let within : c.numbers.m + 1 ≤ 2 ^ d = omega (arith, c.numbers-test.true, one_shl d 32 (omega arith)) in
    let cost : c.parent_at-node.new.steps ≤ c.args.steps.now + (c.numbers.m + 1) * each =
    omega (arith, c.numbers.invariant.steps, c.parent_at-node.ensures.steps) in
    steps_all (c.numbers.m + 1) (2 ^ d) each c.parent_at-node.new.steps c.args.steps.now within cost

pub returns-clause-steps : goal.returns-clause-steps
returns-clause-steps g c =
    let d = c.args.upper.now.values in
    let each = 2 * length c.args.upper.now.cell.now + 2 in
    let end : c.numbers.m ≡ 2 ^ d = omega (arith, one_shl d 32 (omega arith)) in
    steps_all c.numbers.m (2 ^ d) each c.numbers.steps c.args.steps.now (omega (arith, end)) c.numbers.invariant.steps
