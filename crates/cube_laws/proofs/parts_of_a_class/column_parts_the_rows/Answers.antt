use Rattle.cube_defs.specs.Cell.{leq}
use Rattle.cube_defs.specs.Rows.{Row}
use Rattle.cube_defs.specs.Tree.{values_at}
use Rattle.cube_laws.proofs.Labels.{column_all, column_once}
use Rattle.cube_laws.proofs.Lists.{all_from}
use Rattle.cube_laws.proofs.Orders.{equality-path}
use Rattle.cube_laws.specs.Lists.{Among}
use Rattle.cube_laws.specs.Parts.{HasAll}
use Rattle.std.proofs.Common.{length, subst, true, ◌<◌, ◌≡◌}
use Rattle.std.specs.List.{IsDistinct}
use Rattle.cube_laws.proofs.parts_of_a_class.column_parts_the_rows.Goals as goal

pub returns-clause-once : goal.returns-clause-once
returns-clause-once g c
    = λ rows p i. subst (λ e. IsDistinct e (values_at g.V.Ord.cmp rows p i)) (equality-path _ g.met.V.Ord.matches_eq)
    (column_once g.met.V.Ord.total g.met.V.Value.apart rows p i)

pub returns-clause-enough : goal.returns-clause-enough
returns-clause-enough g c
    = λ rows some p u i. subst (λ e. leq e p u ≡ true → ((s : Row _) → Among s some → Among s rows)
    → ((s : Row _) → Among s rows → i < length s.tuple) → HasAll e some u i (values_at g.V.Ord.cmp rows p i))
    (equality-path _ g.met.V.Ord.matches_eq)
    (λ low within long. column_all g.met.V.Ord.total g.met.V.Value.apart rows p u i low some within
    (all_from _ rows long))
