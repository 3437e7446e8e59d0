use Rattle.std.proofs.Common.{◌∙◌, ap, nat_cmp, sym}
use Rattle.std.specs.FinMap as map
use Rattle.cube_defs.specs.Tree.{cell_at}
use Rattle.qc_arena.specs.Map.{Arena}
use Rattle.qc_arena.proofs.CallerLemmas.{none_there}
use Rattle.tree_tests.proofs.grown.planted.Goals as goal

pub add_node-requires-clause-under : goal.add_node-requires-clause-under
add_node-requires-clause-under g c
    = λ k e. none_there k _
    (sym (ap (λ t. cell_at t k) (ap (λ (v : Arena). v.now) c.begin.ensures ∙ ap (λ (v : Arena). v.now) c.in-Ok.ensures))
    ∙ e)

pub returns-clause-alone : goal.returns-clause-alone
returns-clause-alone g c = λ q other. c.in-Ok-add_node.ensures.others q other
    ∙ ap (λ t. map.get t q) (ap (λ (v : Arena). v.now) c.begin.ensures ∙ ap (λ (v : Arena). v.now) c.in-Ok.ensures)
    ∙ map.get-empty nat_cmp q
