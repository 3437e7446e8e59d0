use Rattle.std.proofs.Common.{◌∙◌, ℕ, ap, arith, nat_cmp}
use Rattle.std.specs.FinMap as finmap
use Rattle.cube_defs.specs.Tree.{Node, Tree}
use Rattle.warehouse.proofs.changing.remove_nodes.Goals as goal

pub returns-then-live-eq0-clause-none : goal.returns-then-live-eq0-clause-none
returns-then-live-eq0-clause-none g c
    = finmap.empty_of_len c.args.tree.now.now (omega (arith, c.live.ensures.value, c.if-live-eq0.true))

pub returns-clause-steps : goal.returns-clause-steps
returns-clause-steps g c = λ empty.
    let none = ap (λ (t : Tree ℕ). finmap.len t) empty ∙ finmap.len-empty nat_cmp (Node ℕ ℕ) in
    absurd (omega (arith, none, c.live.ensures.value, c.if-live-eq0.false))
