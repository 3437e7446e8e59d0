use Rattle.std.proofs.Common.{◌≡◌, ◌∙◌, ◌+◌, ◌-◌, suc, Some, ap, arith, drop, length, sym}
use Rattle.std.proofs.lemmas.Option.{slice_get_within}
use Rattle.batch_delete.specs.Plan.{planning_cost}
use Rattle.batch_delete.proofs.NodePlans.{greater_planned, planned_more, planning_more}
use Rattle.batch_delete.proofs.Growing.{item_at}
use Rattle.batch_delete.proofs.plan.plan_row.Goals as goal

pub node_plan_of-fate-requires : goal.node_plan_of-fate-requires
node_plan_of-fate-requires g c κs within =
    let a = c.args.row.now.arena.now in
    let xs = c.args.list.now.items in
    let j = c.len-many.result - 1 - c.nodes.k in
    let many = c.len-many.ensures in
    let test = c.nodes-test.true in
    let b = c.index-below.result.now in
    let at = item_at xs j b (omega (arith, many, test)) ∙ ap (λ b. Some b) (sym c.index-below.ensures) in
    let next : length xs - c.nodes.k ≡ suc j = omega arith in
    let row = c.requires.1.gone in
    let are = c.requires.1.below in
    let had = rw next at c.nodes.invariant.planned in
    let greater = greater_planned a.width a.now g.d row.tree c.args.row.now.tuple.now row.long xs are j b at
    c.nodes.plan.entries had in
    (within, record { gone = row; cell = are.cells j b at; low = are.below j b at; planned = greater })

pub nodes-preserved : goal.nodes-preserved
nodes-preserved g c =
    let a = c.args.row.now.arena.now in
    let xs = c.args.list.now.items in
    let n = length c.args.row.now.tuple.now in
    let j = c.len-many.result - 1 - c.nodes.k in
    let many = c.len-many.ensures in
    let test = c.nodes-test.true in
    let b = c.index-below.result.now in
    let at = item_at xs j b (omega (arith, many, test)) ∙ ap (λ b. Some b) (sym c.index-below.ensures) in
    let next : length xs - c.nodes.k ≡ suc j = omega arith in
    let here : j ≡ length xs - (c.nodes.k + 1) = omega arith in
    let are = c.requires.1.below in
    let had = rw next at c.nodes.invariant.planned in
    let made = c.in_ok-add_node_plan.ensures in
    let fate = c.node_plan_of-fate.ensures in
    let all = planned_more a.width a.now g.d c.requires.1.gone.tree c.args.row.now.tuple.now c.requires.1.gone.long xs are j b
    at c.nodes.plan.entries had c.add_node_plan.new.plan.entries c.node_plan_of-fate.result fate.after fate.heir
    made.here made.heir made.others made.heirs in
    let more = planning_more n a.now xs xs j b at in
    let before = c.nodes.invariant.steps in
    let left : planning_cost n a.now xs (drop (length xs - c.nodes.k) xs) ≡ planning_cost n a.now xs (drop (suc j) xs)
    = ap (λ m. planning_cost n a.now xs (drop m xs)) next in
    let now : planning_cost n a.now xs (drop j xs) ≡ planning_cost n a.now xs (drop (length xs - (c.nodes.k + 1)) xs)
    = ap (λ m. planning_cost n a.now xs (drop m xs)) here in
    let took = fate.steps xs are in
    record {
      planned = rw (← here) all;
      steps = omega (arith, before, took, left, now, more);
    }

pub returns-clause-planned : goal.returns-clause-planned
returns-clause-planned g c =
    let past = c.nodes-test.false in
    let many = c.len-many.ensures in
    λ j b l e. c.nodes.invariant.planned j b (omega arith) e

pub nodes-init : goal.nodes-init
nodes-init g c = record {
  planned = λ j b l e. absurd (omega (arith, l, slice_get_within c.args.list.now.items j b e));
  steps = omega arith;
}

pub returns-clause-steps : goal.returns-clause-steps
returns-clause-steps g c =
    let xs = c.args.list.now.items in
    let z : length xs - c.nodes.k ≡ 0 = omega (arith, c.len-many.ensures, c.nodes-test.false) in
    rw z at c.nodes.invariant.steps
