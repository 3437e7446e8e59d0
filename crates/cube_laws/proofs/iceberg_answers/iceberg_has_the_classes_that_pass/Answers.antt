use Rattle.cube_defs.specs.Answers.{passing_classes, passes_bound, lower_bounds}
use Rattle.cube_defs.specs.Rows.{agg}
use Rattle.cube_defs.specs.Tree.{classes}
use Rattle.cube_laws.proofs.Icebergs.{asked-has, iceberg-asked}
use Rattle.cube_laws.proofs.Orders.{equality-path}
use Rattle.cube_laws.specs.Lists.{Among}
use Rattle.std.proofs.Common.{subst, true, ◌↔◌, ◌≡◌}
use Rattle.cube_laws.proofs.iceberg_answers.iceberg_has_the_classes_that_pass.Goals as goal

pub returns-clause-sorted : goal.returns-clause-sorted
returns-clause-sorted g c
    = λ measures rows ask hit. iceberg-asked g.met.V.Ord.total g.met.V.Value.apart measures rows ask hit

pub returns-clause-asked : goal.returns-clause-asked
returns-clause-asked g c
    = λ measures rows ask hit. subst (λ e. Among hit (passing_classes g.V.Ord.cmp measures rows ask)
    ↔ (Among hit.upper (classes g.V.Ord.cmp rows) × (passes_bound ask hit.agg ≡ true)
    × (hit.agg ≡ agg e measures rows hit.upper) × (hit.lowers ≡ lower_bounds g.V.Ord.cmp rows hit.upper)))
    (equality-path _ g.met.V.Ord.matches_eq) (asked-has g.met.V.Ord.total g.met.V.Value.apart measures rows ask hit)
