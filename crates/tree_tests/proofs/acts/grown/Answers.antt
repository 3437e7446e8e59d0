use Rattle.std.proofs.Common.{◌∙◌, [], None, ap, replicate}
use Rattle.cube_defs.specs.Cell.{with_value}
use Rattle.cube_defs.specs.Tree.{cell_at}
use Rattle.tree_tests.proofs.acts.grown.Goals as goal
use Rattle.tree_laws.proofs.CallerLemmas.{there}

pub returns-in-Ok-clause-root : goal.returns-in-Ok-clause-root
returns-in-Ok-clause-root g c =
    let at = ap (λ t. cell_at t c.args.root.0) c.touch.ensures.now ∙ c.requires.root in
    (c.in-Ok.ensures.made 0 [] (replicate 3 None) at).cells c.args.root.0 (replicate 3 None) at

pub returns-in-Ok-clause-child : goal.returns-in-Ok-clause-child
returns-in-Ok-clause-child g c =
    let at = ap (λ t. cell_at t c.args.root.0) c.touch.ensures.now ∙ c.requires.root in
    there c.add_child.new.arena.now c.in-Ok.child.0 (with_value (replicate 3 None) c.args.dim c.args.code)
    (c.in-Ok.ensures.here (replicate 3 None) at)
