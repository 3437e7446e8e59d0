use Rattle.std.proofs.Common.{◌∙◌, ap, sym}
use Rattle.cube_defs.specs.Tree.{cell_at}
use Rattle.qc_arena.specs.Map.{Arena}
use Rattle.qc_arena.proofs.CallerLemmas.{none_there}
use Rattle.tree_tests.proofs.acts.planted.Goals as goal

pub add_root-requires-clause-none : goal.add_root-requires-clause-none
add_root-requires-clause-none g c
    = λ k e. none_there k _
    (sym (ap (λ t. cell_at t k) (ap (λ (v : Arena). v.now) c.begin.ensures ∙ ap (λ (v : Arena). v.now) c.in-Ok.ensures))
    ∙ e)
