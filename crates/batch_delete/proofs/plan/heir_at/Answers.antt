use Rattle.std.proofs.Common.{◌∙◌, Some, ap, arith, sym}
use Rattle.std.specs.Option.{option_map}
use Rattle.cube_defs.specs.Cell.{depth, cell_prefix}
use Rattle.batch_delete.proofs.PlanningNodes.{heir_there, own_prefix, shared_closes, shared_long, whole_prefix}
use Rattle.batch_delete.proofs.plan.heir_at.Goals as goal

pub front-front-requires : goal.front-front-requires
front-front-requires g c =
    let closes = shared_closes g.d c.args.below.now.cell c.args.after.now c.in-Some.rest c.requires.1.after
    c.in-Some.is in
    let long = shared_long c.args.arena.now.width c.args.arena.now.now g.d c.requires.1.tree c.args.below.now.cell
    c.in-Some.rest closes in
    let wide = c.requires.1.long in
    let within = c.depth.ensures.within in
    omega arith

pub leq-requires : goal.leq-requires
leq-requires g c =
    let closes = shared_closes g.d c.args.below.now.cell c.args.after.now c.in-Some.rest c.requires.1.after
    c.in-Some.is in
    shared_long c.args.arena.now.width c.args.arena.now.now g.d c.requires.1.tree c.args.below.now.cell
    c.in-Some.rest closes ∙ sym c.requires.1.long

pub returns-then-leq-clause-heir : goal.returns-then-leq-clause-heir
returns-then-leq-clause-heir g c =
    let closes = shared_closes g.d c.args.below.now.cell c.args.after.now c.in-Some.rest c.requires.1.after
    c.in-Some.is in
    let own = whole_prefix g.d c.args.below.now.cell c.in-Some.rest.shared closes (sym c.leq.ensures ∙ c.if-leq.true) in
    ap (λ x. Some x) (c.requires.1.cell ∙ ap (λ x. Some x) (sym own))
    ∙ sym (ap (λ o. option_map (λ x. Some x) (option_map (cell_prefix (depth c.args.below.now.cell)) o)) closes)

pub leq-requires-in-Some : goal.leq-requires-in-Some
leq-requires-in-Some g c =
    let closes = shared_closes g.d c.args.below.now.cell c.args.after.now c.in-Some.rest c.requires.1.after
    c.in-Some.is in
    let long = shared_long c.args.arena.now.width c.args.arena.now.now g.d c.requires.1.tree c.args.below.now.cell
    c.in-Some.rest closes in
    c.front-front.ensures.dims ∙ long ∙ sym c.requires.1.long

pub returns-then-leq-2-clause-heir : goal.returns-then-leq-2-clause-heir
returns-then-leq-2-clause-heir g c =
    let closes = shared_closes g.d c.args.below.now.cell c.args.after.now c.in-Some.rest c.requires.1.after
    c.in-Some.is in
    let is = c.front-front.ensures.value ∙ ap (λ n. cell_prefix n c.in-Some.rest.shared) c.depth.ensures.value in
    let own = own_prefix g.d c.args.below.now.cell c.in-Some.rest.shared c.front-front.result closes is
    (sym c.leq-in-Some.ensures ∙ c.if-leq-2.true) in
    ap (λ x. Some x) (c.requires.1.cell ∙ ap (λ x. Some x) (sym own))
    ∙ sym (ap (λ o. option_map (λ x. Some x) (option_map (cell_prefix (depth c.args.below.now.cell)) o)) closes)

pub node_at-requires-clause-node : goal.node_at-requires-clause-node
node_at-requires-clause-node g c =
    let closes = shared_closes g.d c.args.below.now.cell c.args.after.now c.in-Some.rest c.requires.1.after
    c.in-Some.is in
    let at = heir_there c.args.arena.now.width c.args.arena.now.now g.d c.requires.1.tree c.args.below.now.cell
    c.in-Some.rest.shared c.depth.result closes in
    (at.0, at.1 ∙ ap (λ c. Some c) (sym c.front-front.ensures.value))

pub returns-else-leq-2-clause-steps : goal.returns-else-leq-2-clause-steps
returns-else-leq-2-clause-steps g c =
    let closes = shared_closes g.d c.args.below.now.cell c.args.after.now c.in-Some.rest c.requires.1.after
    c.in-Some.is in
    let long = shared_long c.args.arena.now.width c.args.arena.now.now g.d c.requires.1.tree c.args.below.now.cell
    c.in-Some.rest closes in
    let wide = c.requires.1.long in
    let dims = c.front-front.ensures.dims in
    let took = c.node_at.ensures.steps in
    omega arith
