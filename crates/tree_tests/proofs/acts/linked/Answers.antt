use Rattle.std.proofs.Common.{◌∙◌, [], None, ap, replicate}
use Rattle.std.specs.FinMap as map
use Rattle.std.specs.Option.{option_map}
use Rattle.cube_defs.specs.Tree.{cell_at}
use Rattle.qc_arena.specs.Map.{Known}
use Rattle.tree_tests.proofs.acts.linked.Goals as goal
use Rattle.tree_laws.proofs.CallerLemmas.{some_there}

pub returns-in-Ok-clause-root : goal.returns-in-Ok-clause-root
returns-in-Ok-clause-root g c =
    let at = ap (λ t. cell_at t c.args.root.0) c.touch.ensures.now ∙ c.requires.root in
    let target = some_there (map.get c.args.arena.now.now c.args.target.0) c.requires.target in
    (c.in-Ok.ensures.made 0 [] (replicate 3 None) target.0.cell at
    (ap (λ t. cell_at t c.args.target.0) c.touch.ensures.now
    ∙ ap (option_map (λ (x : Known). x.cell)) target.1)).cells c.args.root.0 (replicate 3 None) at
