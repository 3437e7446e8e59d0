use Rattle.std.proofs.Common.{◌∙◌, [], None, ap, replicate}
use Rattle.cube_defs.specs.Tree.{cell_at}
use Rattle.tree_tests.proofs.acts.marked.Goals as goal

pub returns : goal.returns
returns g c =
    let at = ap (λ t. cell_at t c.args.root.0) c.touch.ensures.now ∙ c.requires.root in
    record { root = (c.mark_class.ensures.made 0 [] (replicate 3 None) at).cells c.args.root.0 (replicate 3 None) at }
